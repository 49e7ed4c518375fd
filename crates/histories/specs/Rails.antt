-- What a script makes of the rails. Assumes nothing.
use Rattle.std.specs.Prelude.{◌≡◌, ℕ, zero, suc, ◌<◌, cond, List, [], ◌∷◌, drop, ◌==◌}
use Rattle.histories.specs.declared.rail.Rail.{Rail}
use Rattle.histories.specs.declared.rail.Rail.TheVariants.{Still, Moving}
use Rattle.histories.specs.declared.step.Step.{Step}
use Rattle.histories.specs.declared.step.Step.TheVariants.{Start, Wait}

-- the rail that a step starts or waits for
abbrev pub rail_of : Step → ℕ
rail_of (Start r t) = r
rail_of (Wait r) = r

-- the value that a rail comes to
abbrev pub end_of : Rail → ℕ
end_of (Still v) = v
end_of (Moving o t) = t

-- the value that a rail comes from
abbrev pub origin_of : Rail → ℕ
origin_of (Still v) = v
origin_of (Moving o t) = o

-- the rails after the first of these steps: a start sets its rail moving, a wait lets it stand
abbrev pub stepped : List Step → (ℕ → Rail) → ℕ → Rail
stepped [] rails i = rails i
stepped (Start r t ∷ rest) rails i = cond (i == r) (Moving (end_of (rails i)) t) (rails i)
stepped (Wait r ∷ rest) rails i = cond (i == r) (Still (end_of (rails i))) (rails i)

-- the rails after the first k steps of a script, from a first mix
abbrev pub after : (ℕ → ℕ) → List Step → ℕ → ℕ → Rail
after first script zero i = Still (first i)
after first script (suc k) i = stepped (drop k script) (after first script k) i

-- a script's last mix: each rail's last target, or its first value where it has none
abbrev pub last_mix : (ℕ → ℕ) → List Step → ℕ → ℕ
last_mix first [] i = first i
last_mix first (Start r t ∷ rest) i = last_mix (λ j. cond (j == r) t (first j)) rest i
last_mix first (Wait r ∷ rest) i = last_mix first rest i

-- the rail stands
abbrev pub IsStill : Rail → Type 0
IsStill rail = (v : ℕ) × (rail ≡ Still v)

-- the rail moves
abbrev pub IsMoving : Rail → Type 0
IsMoving rail = (o : ℕ) × (t : ℕ) × (rail ≡ Moving o t)

-- the first of these steps is in form: a start needs one of the n rails that stands, a wait one that moves; and with no step left all stand
abbrev pub Ready : ℕ → List Step → (ℕ → Rail) → Type 0
Ready n [] rails = (i : ℕ) → i < n → IsStill (rails i)
Ready n (Start r t ∷ rest) rails = (r < n) × IsStill (rails r)
Ready n (Wait r ∷ rest) rails = (r < n) × IsMoving (rails r)

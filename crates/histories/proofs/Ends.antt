-- What a script leaves each rail at, and the rails of a run at its end. Assumes nothing.
use Rattle.std.proofs.Common.{◌≡◌, ℕ, zero, suc, ◌<◌, true, false, cond, eqb, List, [], ◌∷◌, length, drop, sym, refl, ap, ◌∙◌, arith, length-drop}
use Rattle.platform.specs.Units.{Device}
use Rattle.boards.specs.Meaning.{Meaning}
use Rattle.histories.specs.declared.rail.Rail.{Rail}
use Rattle.histories.specs.declared.rail.Rail.TheVariants.{Still, Moving}
use Rattle.histories.specs.declared.run.Direction.{Direction}
use Rattle.histories.specs.declared.run.Direction.TheVariants.{Forward, Backward}
use Rattle.histories.specs.declared.step.Step.{Step}
use Rattle.histories.specs.declared.step.Step.TheVariants.{Start, Wait}
use Rattle.histories.specs.Rails.{end_of, stepped, after, last_mix}
use Rattle.histories.specs.Plans.{Plan, rails_at, Opened, steps_left, end_mix}
use Rattle.histories.proofs.Kept.{Kept, ready}

-- where a step leaves a rail that would come to x
abbrev pub aimed : List Step → ℕ → ℕ → ℕ
aimed [] x i = x
aimed (Start r t ∷ rest) x i = cond (eqb i r) t x
aimed (Wait r ∷ rest) x i = x

-- the end of a rail after a step
pub end_stepped : (l : List Step) (rails : ℕ → Rail) (i : ℕ) → end_of (stepped l rails i) ≡ aimed l (end_of (rails i)) i
end_stepped [] rails i = refl
end_stepped (Start r t ∷ rest) rails i =
    elim (eqb i r) as (λ b. end_of (cond b (Moving (end_of (rails i)) t) (rails i)) ≡ cond b t (end_of (rails i))) [ true ↦ refl | false ↦ refl ]
end_stepped (Wait r ∷ rest) rails i =
    elim (eqb i r) as (λ b. end_of (cond b (Still (end_of (rails i))) (rails i)) ≡ end_of (rails i)) [ true ↦ refl | false ↦ refl ]

-- the same rails from one step on
end_shifted : (first : ℕ → ℕ) (s : Step) (rest : List Step) (k i : ℕ) → end_of (after first (s ∷ rest) (suc k) i) ≡ end_of (after (λ j. aimed (s ∷ rest) (first j) j) rest k i)
end_shifted first s rest zero i = end_stepped (s ∷ rest) (λ j. Still (first j)) i
end_shifted first s rest (suc k) i =
    end_stepped (drop k rest) (after first (s ∷ rest) (suc k)) i
    ∙ ap (λ x. aimed (drop k rest) x i) (end_shifted first s rest k i)
    ∙ sym (end_stepped (drop k rest) (after (λ j. aimed (s ∷ rest) (first j) j) rest k) i)

-- the end of a rail after the whole script is its value in the last mix
pub end_last : (first : ℕ → ℕ) (script : List Step) (i : ℕ) → end_of (after first script (length script) i) ≡ last_mix first script i
end_last first [] i = refl
end_last first (Start r t ∷ rest) i = end_shifted first (Start r t) rest (length rest) i ∙ end_last (λ j. cond (eqb j r) t (first j)) rest i
end_last first (Wait r ∷ rest) i = end_shifted first (Wait r) rest (length rest) i ∙ end_last first rest i

pub length_none : (l : List Step) → length l ≡ 0 → l ≡ []
length_none [] e = refl
length_none (x ∷ l) e = absurd (omega arith)

-- with no step left every rail is at the end's value
pub at_end : {units : List Device} {q : Plan} {b₀ : Meaning} → Opened units q b₀ → (k : ℕ) (d : Direction) (b : Meaning) → Kept q k d b → steps_left q k d ≡ 0 → (i : ℕ) → i < q.rails → b.value i ≡ end_mix q d i
at_end {q = q} o k Forward b c z i h =
    let last : k ≡ length q.script = omega (arith, c.place, length-drop k q.script) in
    let rest : _ = ready o k c.place (length_none (drop k q.script) z) i h in
    let was : (b.value i ≡ rest.0) × (b.target i ≡ rest.0) = rw rest.1 at (c.rail i h) in
    was.0 ∙ sym (ap end_of rest.1) ∙ ap (λ j. end_of (rails_at q j i)) last ∙ end_last q.first q.script i
at_end {q = q} o k Backward b c z i h = (rw z at (c.rail i h)).0

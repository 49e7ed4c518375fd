-- Which sets can be built up rail by rail. Assumes nothing.
use Rattle.std.specs.Prelude.{◌≡◌, ℕ, ◌+◌, ◌^◌, cond, List, ◌==◌}
use Rattle.platform.specs.Units.{Device}
use Rattle.histories.specs.declared.rail.Rail.{Rail}
use Rattle.histories.specs.declared.rail.Rail.TheVariants.{Still, Moving}
use Rattle.histories.specs.Spans.{Safe}
use Rattle.ordering.specs.Sets.{Mixes, bit, place, Changes}

-- the mix once the rails of set s have moved
abbrev pub moved_mix : Mixes → ℕ → ℕ → ℕ
moved_mix x s i = cond (bit s (place x i) == 1) (x.last i) (x.first i)

-- all rails stand at a mix, but for rail r, which is on its way to t
abbrev pub leaving : (ℕ → ℕ) → ℕ → ℕ → ℕ → Rail
leaving mix r t i = cond (i == r) (Moving (mix i) t) (Still (mix i))

-- rail r can be moved next after those of set s
pub record Next (units : List Device) (x : Mixes) (s r : ℕ) : Type 0 where
  pub changes : Changes x r
  pub out : bit s (place x r) ≡ 0
  pub safe : Safe x.rails units (leaving (moved_mix x s) r (x.last r))

-- the empty set, where the rails are safe at the first mix; and a set with one more rail that can be moved next
pub data Movable (units : List Device) (x : Mixes) : ℕ → Type 0 where
  nothing : Safe x.rails units (λ i. Still (x.first i)) → Movable units x 0
  more : {s r : ℕ} → Movable units x s → Next units x s r → Movable units x (s + 2 ^ place x r)

-- No end of any rail at any place is above the ceiling. Assumes nothing.
use Rattle.std.proofs.Common.{ℕ, zero, suc, ◌<◌, ◌≤◌, true, false, cond, eqb, List, [], ◌∷◌, drop}
use Rattle.std.specs.List.{AllByRecursion}
use Rattle.std.proofs.ByRecursion.{All-drop}
use Rattle.histories.specs.declared.rail.Rail.{Rail}
use Rattle.histories.specs.declared.rail.Rail.TheVariants.{Still, Moving}
use Rattle.histories.specs.declared.step.Step.{Step}
use Rattle.histories.specs.declared.step.Step.TheVariants.{Start, Wait}
use Rattle.histories.specs.Rails.{end_of, origin_of, stepped}
use Rattle.openings.specs.Plans.{Plan, rails_at}
use Rattle.openings.specs.Openings.{Low, Suits}

-- neither end of the rail is above c
abbrev pub LowRail : ℕ → Rail → Type 0
LowRail c s = (origin_of s ≤ c) × (end_of s ≤ c)

low_stepped : (c : ℕ) (l : List Step) (rails : ℕ → Rail) (i : ℕ) → AllByRecursion (Low c) l → LowRail c (rails i) → LowRail c (stepped l rails i)
low_stepped c [] rails i a h = h
low_stepped c (Start r t ∷ rest) rails i a h =
    elim (eqb i r) as (λ b. LowRail c (cond b (Moving (end_of (rails i)) t) (rails i))) [ true ↦ (h.1, a.0) | false ↦ h ]
low_stepped c (Wait r ∷ rest) rails i a h =
    elim (eqb i r) as (λ b. LowRail c (cond b (Still (end_of (rails i))) (rails i))) [ true ↦ (h.1, h.1) | false ↦ h ]

pub low_rails : (q : Plan) {count : ℕ} → Suits q count → (k i : ℕ) → i < q.rails → LowRail q.ceiling (rails_at q k i)
low_rails q s zero i h = (s.values i h, s.values i h)
low_rails q s (suc k) i h = low_stepped q.ceiling (drop k q.script) (rails_at q k) i (All-drop (Low q.ceiling) k q.script s.targets) (low_rails q s k i h)

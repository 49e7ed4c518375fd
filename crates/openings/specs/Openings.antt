-- Scripts in form, and when a run is opened. Assumes nothing.
use Rattle.std.specs.Prelude.{◌≡◌, ℕ, suc, ◌<◌, ◌≤◌, false, List, length, drop}
use Rattle.std.specs.List.{AllByRecursion}
use Rattle.platform.specs.Units.{Device, Resting}
use Rattle.boards.specs.Meaning.{Meaning}
use Rattle.histories.specs.declared.step.Step.{Step}
use Rattle.histories.specs.declared.step.Step.TheVariants.{Start, Wait}
use Rattle.histories.specs.Rails.{after, last_mix, Ready}
use Rattle.histories.specs.Spans.{mix_of, Safe}
use Rattle.openings.specs.Plans.{Plan}

-- step k is in form: it is one of the first 64, and may come after the steps before it; at the script's end no rail moves
abbrev pub InForm : ℕ → (ℕ → ℕ) → List Step → ℕ → Type 0
InForm n first script k = Ready n (drop k script) (after first script k) × (k < length script → k < 64)

-- every step is in form
abbrev pub Formed : ℕ → (ℕ → ℕ) → List Step → Type 0
Formed n first script = (k : ℕ) → k ≤ length script → InForm n first script k

-- k is the first step out of form, or the script's length where only a rail is left moving
pub record Misstep (n : ℕ) (first : ℕ → ℕ) (script : List Step) (k : ℕ) : Type 0 where
  pub within : k ≤ length script
  pub bad : InForm n first script k → ⊥
  pub first_bad : (j : ℕ) → j < k → InForm n first script j

-- whichever step of the script was last, the rails are safe
abbrev pub SafeScript : ℕ → List Device → (ℕ → ℕ) → List Step → Type 0
SafeScript n units first script = (k : ℕ) → k < length script → Safe n units (after first script (suc k))

-- what opening asks of a script from a first mix, before it looks at a board
pub record Passes (n : ℕ) (units : List Device) (first : ℕ → ℕ) (script : List Step) : Type 0 where
  pub formed : Formed n first script
  pub first_rests : Resting units (mix_of n first)
  pub last_rests : Resting units (mix_of n (last_mix first script))
  pub safe : SafeScript n units first script

-- a start is not above the ceiling
abbrev pub Low : ℕ → Step → Type 0
Low ceiling (Start r t) = t ≤ ceiling
Low ceiling (Wait r) = Unit {0}

-- a board with so many rails suits the plan: they are as many, and no value of the plan is above the ceiling
pub record Suits (q : Plan) (count : ℕ) : Type 0 where
  pub counted : count ≡ q.rails
  pub values : (i : ℕ) → i < q.rails → q.first i ≤ q.ceiling
  pub targets : AllByRecursion (Low q.ceiling) q.script

-- every rail of the board is at its first value and not pending
abbrev pub Standing : Plan → Meaning → Type 0
Standing q b = (i : ℕ) → i < q.rails → (b.value i ≡ q.first i) × (b.pending i ≡ false)

-- a run may be opened with the plan on a board with so many rails: script and mixes pass, the board suits them, and it stands at the first mix
pub record Opened (units : List Device) (q : Plan) (count : ℕ) (b : Meaning) : Type 0 where
  pub passes : Passes q.rails units q.first q.script
  pub suits : Suits q count
  pub standing : Standing q b

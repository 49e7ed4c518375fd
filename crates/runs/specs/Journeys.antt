-- What an open run holds: a script on the platform's rails, and each rail as the steps done leave it. Assumes nothing.
use Rattle.std.specs.Prelude.{◌≡◌, ℕ, zero, suc, ◌<◌, List, [], ◌∷◌, length, drop, Some, None, Option, slice_index_or}
use Rattle.histories.specs.declared.rail.Rail.{Rail}
use Rattle.histories.specs.declared.rail.Rail.TheVariants.{Still}
use Rattle.histories.specs.declared.run.Direction.{Direction}
use Rattle.histories.specs.declared.run.Direction.TheVariants.{Forward, Backward}
use Rattle.histories.specs.declared.step.Step.{Step}
use Rattle.histories.specs.declared.step.Step.TheVariants.{Start}
use Rattle.histories.specs.Rails.{rail_of, after}

-- each step is about one of the first n rails
abbrev pub OnRails : ℕ → List Step → Type 0
OnRails n script = (k : ℕ) → k < length script → rail_of (slice_index_or script k (Start 0 0)) < n

-- the record of a rail
abbrev pub record_at : List Rail → ℕ → Rail
record_at records i = slice_index_or records i (Still 0)

-- the records have each of the first n rails as the first k steps leave it
abbrev pub Recorded : ℕ → (ℕ → ℕ) → List Step → ℕ → List Rail → Type 0
Recorded n first script k records = (i : ℕ) → i < n → record_at records i ≡ after first script k i

-- the first of these steps, if there is one
abbrev pub leading : List Step → Option Step
leading [] = None
leading (s ∷ rest) = Some s

-- the step that an advance is about: forward the one at the place, backward the last one done
abbrev pub current : List Step → ℕ → Direction → Option Step
current script k Forward = leading (drop k script)
current script zero Backward = None
current script (suc k) Backward = leading (drop k script)

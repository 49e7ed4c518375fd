-- What a run is opened with, and what is left of it at a place. Assumes nothing.
use Rattle.std.specs.Prelude.{◌≡◌, ℕ, zero, suc, ◌+◌, List, [], ◌∷◌, length, drop}
use Rattle.histories.specs.declared.rail.Rail.{Rail}
use Rattle.histories.specs.declared.run.Direction.{Direction}
use Rattle.histories.specs.declared.run.Direction.TheVariants.{Forward, Backward}
use Rattle.histories.specs.declared.step.Step.{Step}
use Rattle.histories.specs.declared.step.Step.TheVariants.{Start, Wait}
use Rattle.histories.specs.Rails.{after, last_mix}

-- what a run is opened with: the platform's count of rails, the board's ceiling and patience, the first mix and the script
pub record Plan : Type 0 where
  pub rails : ℕ
  pub ceiling : ℕ
  pub patience : ℕ
  pub first : ℕ → ℕ
  pub script : List Step

-- the rails after the plan's first k steps
abbrev pub rails_at : Plan → ℕ → ℕ → Rail
rails_at q = after q.first q.script

-- step k of the plan's script is s, and the rest comes after it
abbrev pub StepAt : Plan → ℕ → Step → List Step → Type 0
StepAt q k s rest = drop k q.script ≡ s ∷ rest

-- the waits among these steps
abbrev pub waits : List Step → ℕ
waits [] = 0
waits (Start r t ∷ rest) = waits rest
waits (Wait r ∷ rest) = 1 + waits rest

-- 1 if the first of these steps is a start
abbrev pub leads_start : List Step → ℕ
leads_start [] = 0
leads_start (Start r t ∷ rest) = 1
leads_start (Wait r ∷ rest) = 0

-- the starts among the first k steps
abbrev pub starts_before : List Step → ℕ → ℕ
starts_before script zero = 0
starts_before script (suc k) = leads_start (drop k script) + starts_before script k

-- how many steps are still to do from place k: those ahead of it going forward, those behind it going backward
abbrev pub steps_left : Plan → ℕ → Direction → ℕ
steps_left q k Forward = length (drop k q.script)
steps_left q k Backward = k

-- how many of these poll a rail: the waits going forward, the starts going backward
abbrev pub waits_left : Plan → ℕ → Direction → ℕ
waits_left q k Forward = waits (drop k q.script)
waits_left q k Backward = starts_before q.script k

-- the mix at the end of a direction
abbrev pub end_mix : Plan → Direction → ℕ → ℕ
end_mix q Forward = last_mix q.first q.script
end_mix q Backward = q.first

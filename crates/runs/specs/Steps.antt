-- The script that a run keeps. Assumes nothing.
use Rattle.std.specs.Prelude.{List, take}
use Rattle.histories.specs.declared.step.Step.{Step}
use Rattle.runs.specs.declared.steps.Steps.{Steps}

-- the steps that were copied
abbrev pub steps_of : Steps → List Step
steps_of s = take s.count s.items

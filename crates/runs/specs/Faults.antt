-- The numbers of an opening's refusals, and an answer as an outcome. Assumes nothing.
use Rattle.std.specs.Prelude.{ℕ, Ok, Err, Result}
use Rattle.histories.specs.declared.fault.RunFault.{RunFault}
use Rattle.histories.specs.declared.run.Answer.{Answer}
use Rattle.histories.specs.declared.run.Outcome.{Outcome}
use Rattle.histories.specs.declared.run.Outcome.TheVariants.{Answered, Granted, Refused}
use Rattle.scripts.specs.Checking.{script_number}
use Rattle.runs.specs.declared.fault.OpenFault.{OpenFault}
use Rattle.runs.specs.declared.fault.OpenFault.TheVariants.{NotEmpty, Script, Board}

abbrev pub open_number : OpenFault → ℕ
open_number NotEmpty = 17
open_number (Script e) = script_number e
open_number Board = 20

-- what an advance answered
abbrev pub answered : Result Answer RunFault → Outcome
answered (Ok a) = Answered a
answered (Err e) = Refused e

-- what a turn or a close answered
abbrev pub granted : {A : Type 0} → Result A RunFault → Outcome
granted (Ok a) = Granted
granted (Err e) = Refused e

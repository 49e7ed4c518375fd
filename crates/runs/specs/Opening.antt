-- What opening a run answers. Assumes nothing.
use Rattle.std.specs.Prelude.{◌≡◌, ℕ, List, Some, None, Ok, Err, Result}
use Rattle.platform.specs.declared.parts.Mix.{Mix}
use Rattle.platform.specs.Units.{value_of}
use Rattle.platform.specs.Describing.{Model}
use Rattle.boards.specs.declared.meaning.Board.{Ghosts}
use Rattle.histories.specs.declared.run.Direction.{Direction}
use Rattle.histories.specs.declared.step.Step.{Step}
use Rattle.openings.specs.Plans.{Plan}
use Rattle.openings.specs.Openings.{Passes, Suits, Standing, Opened}
use Rattle.scripts.specs.Checking.{Checked}
use Rattle.runs.specs.declared.fault.OpenFault.{OpenFault}
use Rattle.runs.specs.declared.fault.OpenFault.TheVariants.{NotEmpty, Script, Board}
use Rattle.runs.specs.declared.journey.Journey.{Journey}
use Rattle.runs.specs.declared.run.Run.{Run}
use Rattle.runs.specs.Working.{meaning, plan, script_of}

-- an open run that has just begun with this mix and this script on n rails
pub record Fresh (n : ℕ) (first : Mix) (script : List Step) (j : Journey) : Type 0 where
  pub rails : j.rails ≡ n
  pub first_is : j.first ≡ first
  pub script_is : script_of j ≡ script
  pub place : j.place ≡ 0
  pub direction : j.direction ≡ Direction.Forward

-- the run is one that has just begun
pub record Begun (n : ℕ) (first : Mix) (script : List Step) (run : Run) : Type 0 where
  pub journey : Journey
  pub is : run ≡ Some journey
  pub fresh : Fresh n first script journey

-- what a run on the board b is opened with on a platform
abbrev pub opening_plan : {B : Type 0} → Ghosts B → Model → Mix → List Step → B → Plan
opening_plan make m first script b = plan make m.rails first.values script b

-- the run is open
abbrev pub IsOpen : Run → Type 0
IsOpen run = (j : Journey) × (run ≡ Some j)

-- what each answer says of the platform, the run, the first mix, the script and the board, and of the run afterwards; the board stays as it is
abbrev pub Opens : {A B : Type 0} → Ghosts B → Model → Run → Mix → List Step → B → Result A OpenFault → Run → Type 0
Opens make m run first script b (Ok a) run' = (run ≡ None) × Opened m.units (opening_plan make m first script b) (make.rails b) (meaning make b) × Begun m.rails first script run'
Opens make m run first script b (Err NotEmpty) run' = IsOpen run × (run' ≡ run)
Opens make m run first script b (Err (Script e)) run' = (run ≡ None) × Checked m (value_of first.values) script (Err e) × (run' ≡ run)
Opens make m run first script b (Err Board) run' =
    (run ≡ None)
    × Passes m.rails m.units (value_of first.values) script
    × (Suits (opening_plan make m first script b) (make.rails b) → Standing (opening_plan make m first script b) (meaning make b) → ⊥)
    × (run' ≡ run)

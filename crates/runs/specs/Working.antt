-- What calls make of a run and of the very board that it works. Assumes nothing.
use Rattle.std.specs.Prelude.{◌≡◌, ℕ, ◌<◌, Bool, ◌⊎◌, List, [], length, Some, None, Ok, Err, Result}
use Rattle.platform.specs.Units.{value_of}
use Rattle.boards.specs.declared.meaning.Board.{Ghosts}
use Rattle.boards.specs.Meaning.{Meaning, meant, Started, Polled}
use Rattle.histories.specs.declared.fault.RunFault.{RunFault}
use Rattle.histories.specs.declared.fault.RunFault.TheVariants.{NotOpen, Unsuited, Between}
use Rattle.histories.specs.declared.run.Answer.{Answer}
use Rattle.histories.specs.declared.run.Call.{Call}
use Rattle.histories.specs.declared.run.Call.TheVariants.{Advance, Turn, Close}
use Rattle.histories.specs.declared.run.Outcome.{Outcome}
use Rattle.histories.specs.declared.run.Outcome.TheVariants.{Refused}
use Rattle.histories.specs.declared.step.Step.{Step}
use Rattle.openings.specs.Plans.{Plan, rails_at}
use Rattle.openings.specs.Openings.{Suits}
use Rattle.openings.specs.Runs.{Works, State, at, shut, Advanced, Restarted, other, Called}
use Rattle.runs.specs.declared.journey.Journey.{Journey}
use Rattle.runs.specs.declared.run.Run.{Run}
use Rattle.runs.specs.Steps.{steps_of}

-- the meaning of a board of some make
abbrev pub meaning : {B : Type 0} → Ghosts B → B → Meaning
meaning make b = meant make.value make.target make.pending make.credit b

-- a start of rail r towards t that was granted: by the meaning and by the make
pub record Sent {B : Type 0} (make : Ghosts B) (b : B) (r t : ℕ) (b' : B) : Type 0 where
  pub rails : make.rails b' ≡ make.rails b
  pub patience : make.patience b' ≡ make.patience b
  pub meant : Started (make.rails b) (make.patience b) (meaning make b) r t (meaning make b')
  pub own : make.starts b r t b'

-- a poll of rail r that was granted, with its answer
pub record Asked {B : Type 0} (make : Ghosts B) (b : B) (r : ℕ) (answer : Bool) (b' : B) : Type 0 where
  pub rails : make.rails b' ≡ make.rails b
  pub patience : make.patience b' ≡ make.patience b
  pub meant : Polled (make.rails b) (meaning make b) r answer (meaning make b')
  pub own : make.polls b r answer b'

-- boards of a make, as calls work them
abbrev pub boards : {B : Type 0} → Ghosts B → Works B
boards make = record { started = Sent make; polled = Asked make }

-- what a run on a board is opened with
abbrev pub plan : {B : Type 0} → Ghosts B → ℕ → List ℕ → List Step → B → Plan
plan make n first script b = record { rails = n; ceiling = make.CEILING; patience = make.patience b; first = value_of first; script = script }

-- the script that an open run holds
abbrev pub script_of : Journey → List Step
script_of j = steps_of j.steps

-- the plan of an open run on a board
abbrev pub plan_of : {B : Type 0} → Ghosts B → Journey → B → Plan
plan_of make j b = plan make j.rails j.first.values (script_of j) b

-- the state of an open run and its board
abbrev pub journey_state : {B : Type 0} → Journey → B → State B
journey_state j b = at j.place j.direction b

-- the state of a run and its board
abbrev pub state_of : {B : Type 0} → Run → B → State B
state_of (Some j) b = journey_state j b
state_of None b = shut b

-- an open run that holds the same mix and script as j
pub record Same (j j' : Journey) : Type 0 where
  pub rails : j'.rails ≡ j.rails
  pub first : j'.first ≡ j.first
  pub steps : j'.steps ≡ j.steps

-- a run that is empty, or holds the same mix and script as j
abbrev pub SameRun : Journey → Run → Type 0
SameRun j (Some j') = Same j j'
SameRun j None = Unit {0}

-- the board is one that the run can work: as many rails, and no value of the run above its ceiling
abbrev pub Suited : {B : Type 0} → Ghosts B → Journey → B → Type 0
Suited make j b = Suits (plan_of make j b) (make.rails b)

-- what an open run on a board that suits it holds, or why there is nothing to work
abbrev pub Finds : {B : Type 0} → Ghosts B → Run → B → Result Journey RunFault → Type 0
Finds make run b (Ok j) = (run ≡ Some j) × Suited make j b
Finds make run b (Err NotOpen) = run ≡ None
Finds make run b (Err Unsuited) = (j : Journey) × (run ≡ Some j) × (Suited make j b → ⊥)
Finds make run b (Err Between) = ⊥

-- an advance of an open run on a board that suits it
pub record Worked {B : Type 0} (make : Ghosts B) (j : Journey) (b : B) (a : Answer) (j' : Journey) (b' : B) : Type 0 where
  pub moments : List B
  pub advanced : Advanced (boards make) (plan_of make j b) (journey_state j b) a moments (journey_state j' b')
  pub same : Same j j'

-- a turn of an open run on a board that suits it
pub record Turned {B : Type 0} (make : Ghosts B) (j : Journey) (b : B) (j' : Journey) (b' : B) : Type 0 where
  pub moments : List B
  pub restarted : Restarted (boards make) (rails_at (plan_of make j b) j.place) (other j.direction) j.rails b moments b'
  pub place : j'.place ≡ j.place
  pub direction : j'.direction ≡ other j.direction
  pub same : Same j j'

-- the calls that work a board
abbrev pub Working : Call → Type 0
Working Advance = Unit {0}
Working Turn = Unit {0}
Working Close = ⊥

-- any call on any run and board, with its outcome and the moments that it passes
pub data Ran {B : Type 0} (make : Ghosts B) : Run → B → Call → Outcome → List B → Run → B → Type 0 where
  -- the run is not open
  unopened : {b : B} {call : Call} → Ran make None b call (Refused NotOpen) [] None b
  -- the board does not suit the run
  unsuited : {j : Journey} {b : B} {call : Call} → Working call → (Suited make j b → ⊥) → Ran make (Some j) b call (Refused Unsuited) [] (Some j) b
  -- otherwise it does what the call does in a history
  made : {j : Journey} {b b' : B} {call : Call} {out : Outcome} {ms : List B} {run' : Run} → (Working call → Suited make j b) → Called (boards make) (plan_of make j b) (journey_state j b) call out ms (state_of run' b') → SameRun j run'
      → Ran make (Some j) b call out ms run' b'

-- what a close answers, and what it makes of a run
abbrev pub Closes : {A : Type 0} → Run → Result A RunFault → Run → Type 0
Closes None (Ok a) run' = ⊥
Closes None (Err NotOpen) run' = run' ≡ None
Closes None (Err Unsuited) run' = ⊥
Closes None (Err Between) run' = ⊥
Closes (Some j) (Ok a) run' = ((j.place ≡ 0) ⊎ (j.place ≡ length (script_of j))) × (run' ≡ None)
Closes (Some j) (Err NotOpen) run' = ⊥
Closes (Some j) (Err Unsuited) run' = ⊥
Closes (Some j) (Err Between) run' = (0 < j.place) × (j.place < length (script_of j)) × (run' ≡ Some j)

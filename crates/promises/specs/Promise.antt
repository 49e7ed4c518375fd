-- What is promised of a run from its opening to its close. Assumes nothing.
use Rattle.std.specs.Prelude.{◌≡◌, ℕ, ◌+◌, ◌*◌, ◌<◌, ◌≤◌, List, map, take, drop, Ok, Err, Result}
use Rattle.std.specs.List.{AllByRecursion}
use Rattle.platform.specs.declared.parts.Mix.{Mix}
use Rattle.platform.specs.Units.{Device}
use Rattle.platform.specs.Describing.{Model}
use Rattle.boards.specs.declared.meaning.Board.{Ghosts}
use Rattle.boards.specs.Meaning.{Meaning}
use Rattle.histories.specs.declared.run.Answer.{Answer}
use Rattle.histories.specs.declared.run.Answer.TheVariants.{Arrived}
use Rattle.histories.specs.declared.run.Call.{Call}
use Rattle.histories.specs.declared.run.Call.TheVariants.{Advance}
use Rattle.histories.specs.declared.run.Direction.{Direction}
use Rattle.histories.specs.declared.run.Direction.TheVariants.{Forward}
use Rattle.histories.specs.declared.run.Outcome.{Outcome}
use Rattle.histories.specs.declared.run.Outcome.TheVariants.{Answered}
use Rattle.histories.specs.declared.step.Step.{Step}
use Rattle.histories.specs.Rails.{last_mix}
use Rattle.openings.specs.Plans.{Plan, steps_left, waits_left}
use Rattle.openings.specs.Laws.{AllInModes, Ungranted, advances, AtEnd}
use Rattle.openings.specs.Orders.{Changed, NoSafeOrder, started}
use Rattle.openings.specs.Runs.{State, at, shut, Called, History}
use Rattle.runs.specs.declared.fault.OpenFault.{OpenFault}
use Rattle.runs.specs.declared.run.Run.{Run}
use Rattle.runs.specs.Working.{meaning, boards, state_of}
use Rattle.runs.specs.Opening.{opening_plan, Opens}
use Rattle.promises.specs.declared.entry.Entry.{Entry}
use Rattle.promises.specs.Notes.{Alongside, outcomes, Shows, WorkedOut}
use Rattle.promises.specs.Chains.{Whole}

-- a state by the meaning of its board
abbrev pub meant_state : {B : Type 0} → Ghosts B → State B → State Meaning
meant_state make (at k d b) = at k d (meaning make b)
meant_state make (shut b) = shut (meaning make b)

-- at each of these moments every unit is in one of its modes
abbrev pub NeverOutside : {B : Type 0} → Ghosts B → ℕ → List Device → List B → Type 0
NeverOutside make n units moments = AllInModes n units (map (meaning make) moments)

-- whatever calls were made since the opening on b: as many more advances as steps are left and waits left times the patience,
-- with no turn or close granted among them, bring the run to its end and every rail to that end's value
abbrev pub AlwaysArrives : {B : Type 0} → Ghosts B → Plan → B → Type 0
AlwaysArrives {B} make q b =
    (calls : List Call) (outs : List Outcome) (moments left : List B) (k : ℕ) (d : Direction) (m : B)
    (more : List Call) (outs' : List Outcome) (moments' left' : List B) (x : State B)
    → History (boards make) q (at 0 Forward b) calls outs moments left (at k d m)
    → History (boards make) q (at k d m) more outs' moments' left' x
    → AllByRecursion Ungranted outs'
    → steps_left q k d + waits_left q k d * q.patience ≤ advances more
    → AtEnd q (meant_state make x)

-- exactly the advances that find the run at its end answer that it arrived
abbrev pub TellsArrival : {B : Type 0} → Ghosts B → Plan → Type 0
TellsArrival {B} make q =
    (k : ℕ) (d : Direction) (b : B) (a : Answer) (moments : List B) (x : State B)
    → Called (boards make) q (at k d b) Advance (Answered a) moments x
    → (a ≡ Arrived → steps_left q k d ≡ 0) × (steps_left q k d ≡ 0 → a ≡ Arrived)

-- to no mix that no order of the changed rails reaches safely does the script go by starting each of them once and no other
abbrev pub NoWayButOrders : ℕ → List Device → Plan → Type 0
NoWayButOrders n units q =
    (last : ℕ → ℕ)
    → NoSafeOrder n units q.first last
    → ((i : ℕ) → i < n → last_mix q.first q.script i ≡ last i)
    → Changed n q.first last (started q.script)
    → ⊥

-- so many of the calls were made, up to the first granted close or as far as there were calls and room to note them
pub record Promised {B : Type 0} (make : Ghosts B) (m : Model) (q : Plan) (b : B) (calls : List Call) (old log : List Entry) (n : ℕ) (run : Run) (b' : B) : Type 0 where
  pub moments : List B
  pub left : List B
  pub history : History (boards make) q (at 0 Forward b) (take n calls) (outcomes (take n log)) moments left (state_of run b')
  pub whole : Whole calls old n run
  pub shown : Alongside (Shows make) (take n log) left
  pub later : drop n log ≡ drop n old
  pub unrefused : Alongside WorkedOut (take n calls) (outcomes (take n log))
  pub safe : NeverOutside make m.rails m.units moments
  pub arrives : AlwaysArrives make q b
  pub tells : TellsArrival make q
  pub orders : NoWayButOrders m.rails m.units q

-- the opening as it is defined, and if it is granted the promise
abbrev pub Rehearses : {B : Type 0} → Ghosts B → Model → Run → Mix → List Step → B → List Call → List Entry → Result ℕ OpenFault → Run → B → List Entry → Type 0
Rehearses make m run first script b calls old (Ok n) run' b' log =
    ((began : Run) × Opens make m run first script b (Ok n) began) × Promised make m (opening_plan make m first script b) b calls old log n run' b'
Rehearses make m run first script b calls old (Err e) run' b' log =
    Opens {A = ℕ} make m run first script b (Err e) run' × (b' ≡ b) × (log ≡ old)

-- What holds of every history from its opening to its close. Assumes nothing.
use Rattle.std.specs.Prelude.{◌≡◌, ℕ, ◌+◌, ◌*◌, ◌<◌, ◌≤◌, List, [], ◌∷◌}
use Rattle.std.specs.List.{AllByRecursion}
use Rattle.platform.specs.Units.{Device}
use Rattle.platform.specs.Rules.{Sound}
use Rattle.boards.specs.Meaning.{Meaning, Stands}
use Rattle.histories.specs.declared.run.Answer.{Answer}
use Rattle.histories.specs.declared.run.Call.{Call}
use Rattle.histories.specs.declared.run.Call.TheVariants.{Advance, Turn, Close}
use Rattle.histories.specs.declared.run.Direction.{Direction}
use Rattle.histories.specs.declared.run.Outcome.{Outcome}
use Rattle.histories.specs.declared.run.Outcome.TheVariants.{Answered, Granted, Refused}
use Rattle.histories.specs.Spans.{mix_of, InModes}
use Rattle.openings.specs.Plans.{Plan, steps_left, waits_left, end_mix}
use Rattle.openings.specs.Openings.{Opened}
use Rattle.openings.specs.Runs.{meanings, State, at, shut, Called, History}

-- at each of these moments of a board with n rails every unit is in some mode
abbrev pub AllInModes : ℕ → List Device → List Meaning → Type 0
AllInModes n units moments = AllByRecursion (λ m. InModes units (mix_of n m.value)) moments

-- no turn or close was granted
abbrev pub Ungranted : Outcome → Type 0
Ungranted (Answered a) = Unit {0}
Ungranted Granted = ⊥
Ungranted (Refused fault) = Unit {0}

-- how many of the calls are advances
abbrev pub advances : List Call → ℕ
advances [] = 0
advances (Advance ∷ calls) = 1 + advances calls
advances (Turn ∷ calls) = advances calls
advances (Close ∷ calls) = advances calls

-- an open run at its end, with every rail at that end's value
abbrev pub AtEnd : Plan → State Meaning → Type 0
AtEnd q (at k d b) = (steps_left q k d ≡ 0) × ((i : ℕ) → i < q.rails → b.value i ≡ end_mix q d i)
AtEnd q (shut b) = ⊥

-- a run on a sound platform is opened on a board with so many rails that keeps the meaning
pub record Begins (units : List Device) (q : Plan) (count : ℕ) (b : Meaning) : Type 0 where
  pub sound : Sound q.rails units
  pub stands : Stands q.rails q.patience b
  pub opened : Opened units q count b

-- at each moment of a run every unit is in some mode
abbrev pub SafeThroughout : Type 0
SafeThroughout =
    (units : List Device) (q : Plan) (count : ℕ) (b : Meaning) (calls : List Call) (outs : List Outcome) (moments left : List Meaning) (x : State Meaning)
    → Begins units q count b
    → History (meanings q) q (at 0 Direction.Forward b) calls outs moments left x
    → AllInModes q.rails units moments

-- from any point, as many more advances as steps are left and waits left times the patience reach the end, unless a turn or close is granted
abbrev pub Reaches : Type 0
Reaches =
    (units : List Device) (q : Plan) (count : ℕ) (b : Meaning) (calls : List Call) (outs : List Outcome) (moments left : List Meaning)
    (k : ℕ) (d : Direction) (m : Meaning) (more : List Call) (outs' : List Outcome) (moments' left' : List Meaning) (x : State Meaning)
    → Begins units q count b
    → History (meanings q) q (at 0 Direction.Forward b) calls outs moments left (at k d m)
    → History (meanings q) q (at k d m) more outs' moments' left' x
    → AllByRecursion Ungranted outs'
    → steps_left q k d + waits_left q k d * q.patience ≤ advances more
    → AtEnd q x

-- exactly the advances that find the run at its end answer that it arrived
abbrev pub Tells : Type 0
Tells =
    (q : Plan) (k : ℕ) (d : Direction) (b : Meaning) (a : Answer) (moments : List Meaning) (x : State Meaning)
    → Called (meanings q) q (at k d b) Call.Advance (Outcome.Answered a) moments x
    → (a ≡ Answer.Arrived → steps_left q k d ≡ 0) × (steps_left q k d ≡ 0 → a ≡ Answer.Arrived)

-- a run that is advanced often enough arrives, and says so
abbrev pub Arrives : Type 0
Arrives = Reaches × Tells

-- Calls on a run, from what the code has in hand. Assumes nothing.
use Rattle.std.proofs.Common.{◌≡◌, ℕ, true, false, List, [], Some, None, Ok, Err, Result, MatchResult, refl, subst, arith}
use Rattle.boards.specs.declared.meaning.Board.{Ghosts}
use Rattle.histories.specs.declared.fault.RunFault.{RunFault}
use Rattle.histories.specs.declared.fault.RunFault.TheVariants.{NotOpen, Unsuited, Between}
use Rattle.histories.specs.declared.run.Answer.{Answer}
use Rattle.histories.specs.declared.run.Call.{Call}
use Rattle.histories.specs.declared.run.Call.TheVariants.{Advance, Turn, Close}
use Rattle.histories.specs.declared.run.Outcome.{Outcome}
use Rattle.histories.specs.declared.run.Outcome.TheVariants.{Answered, Granted, Refused}
use Rattle.openings.specs.Runs.{State, at, other, Called, advanced, turned, closed, kept_open}
use Rattle.runs.specs.declared.journey.Journey.{Journey}
use Rattle.runs.specs.declared.run.Run.{Run}
use Rattle.runs.specs.Faults.{granted}
use Rattle.runs.specs.Opening.{IsOpen}
use Rattle.runs.specs.Working.{boards, plan_of, journey_state, Suited, Finds, Worked, Turned, Working, Ran, unopened, unsuited, made, Closes}

-- what would make false true does not hold
pub never : {P : Type 0} → (P → false ≡ true) → P → ⊥
never f p = let e = f p in let z : ◌≡◌ {A = ℕ} 0 1 = cc in absurd (omega arith)

-- a run that is not open
pub not_open : (run : Run) → (IsOpen run → false ≡ true) → run ≡ None
not_open None h = refl
not_open (Some j) h = absurd (never h (j, refl))

module _ {B : Type 0} (make : Ghosts B) (run : Run) (b : B) where
  -- a call that finds no journey to work
  pub on_refused : (call : Call) → Working call → (e : RunFault) → Finds make run b (Err e) → (ms : List B) × Ran make run b call (Refused e) ms run b
  on_refused call w NotOpen h = rw h ([], unopened)
  on_refused call w Unsuited h = rw h.1 ([], unsuited w h.2)
  on_refused call w Between h = elim h [ ]

  pub on_advance : (j j' : Journey) (b' : B) (a : Answer) → run ≡ Some j → Suited make j b → Worked make j b a j' b' → (ms : List B) × Ran make run b Advance (Answered a) ms (Some j') b'
  on_advance j j' b' a e s w = rw e (w.moments, made (λ _. s) (advanced w.advanced) w.same)

  pub on_turn : (j j' : Journey) (b' : B) → run ≡ Some j → Suited make j b → Turned make j b j' b' → (ms : List B) × Ran make run b Turn Granted ms (Some j') b'
  on_turn j j' b' e s w =
      let left : State B = journey_state j' b' in
      let there : at j.place (other j.direction) b' ≡ left = rw (w.place, w.direction) in
      rw e (w.moments, made (λ _. s) (subst (λ x. Called (boards make) (plan_of make j b) (journey_state j b) Turn Granted w.moments x) there (turned w.restarted)) w.same)

-- an answer as an outcome, case by case
pub granted_by : {A : Type 0} (r : Result A RunFault) (out : Outcome) → MatchResult r (λ _. out ≡ Granted) (λ e. out ≡ Refused e) → out ≡ granted r
granted_by (Ok a) out h = h
granted_by (Err e) out h = h

-- a close does nothing to any board
pub closes : {A B : Type 0} (make : Ghosts B) (run run' : Run) (b : B) (r : Result A RunFault) → Closes run r run' → Ran make run b Close (granted r) [] run' b
closes make None run' b (Ok a) h = elim h [ ]
closes make None run' b (Err NotOpen) h = rw h unopened
closes make None run' b (Err Unsuited) h = elim h [ ]
closes make None run' b (Err Between) h = elim h [ ]
closes make (Some j) run' b (Ok a) h = rw h.1 (made {call = Close} (λ w. elim w [ ]) (closed h.0) tt)
closes make (Some j) run' b (Err NotOpen) h = elim h [ ]
closes make (Some j) run' b (Err Unsuited) h = elim h [ ]
closes make (Some j) run' b (Err Between) h = rw h.2 (made {call = Close} {run' = Some j} (λ w. elim w [ ]) (kept_open h.0 h.1) (record { rails = refl; first = refl; steps = refl }))

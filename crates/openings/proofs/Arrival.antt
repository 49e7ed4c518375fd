-- A run that is advanced often enough is at its end, and says so. Assumes nothing.
use Rattle.std.proofs.Common.{◌≡◌, ℕ, ◌+◌, ◌-◌, ◌≤◌, List, [], ◌∷◌, ◌++◌, length, refl, ap, arith}
use Rattle.std.specs.List.{AllByRecursion}
use Rattle.platform.specs.Units.{Device}
use Rattle.boards.specs.Meaning.{Meaning}
use Rattle.histories.specs.declared.run.Answer.{Answer}
use Rattle.histories.specs.declared.run.Answer.TheVariants.{Arrived}
use Rattle.histories.specs.declared.run.Call.{Call}
use Rattle.histories.specs.declared.run.Call.TheVariants.{Advance, Turn, Close}
use Rattle.histories.specs.declared.run.Direction.{Direction}
use Rattle.histories.specs.declared.run.Outcome.{Outcome}
use Rattle.histories.specs.declared.run.Outcome.TheVariants.{Answered}
use Rattle.openings.specs.Plans.{Plan, steps_left}
use Rattle.openings.specs.Runs.{Works, meanings, State, at, shut, Advanced, start_ahead, wait_ahead, still_ahead, end_ahead, wait_back, start_back, still_back, end_back, Called, advanced, turned, closed, kept_open, History, begun, then}
use Rattle.openings.specs.Laws.{Ungranted, advances, AtEnd, Reaches, Arrives}
use Rattle.histories.proofs.Arrival.{all_split}
use Rattle.openings.proofs.Opening.{Ground, ground}
use Rattle.openings.proofs.Kept.{Keeps}
use Rattle.openings.proofs.Safety.{call_keeps, history_keeps, begins_keeps}
use Rattle.openings.proofs.Ends.{at_end}
use Rattle.openings.proofs.Due.{due_at, due_most, due_falls, none_due}

-- the advances of a list in two parts
advances-++ : (xs ys : List Call) → advances (xs ++ ys) ≡ advances xs + advances ys
advances-++ [] ys = omega arith
advances-++ (Advance ∷ xs) ys = omega (arith, advances-++ xs ys)
advances-++ (Turn ∷ xs) ys = advances-++ xs ys
advances-++ (Close ∷ xs) ys = advances-++ xs ys

-- the run is open
abbrev IsOpen : State Meaning → Type 0
IsOpen (at k d b) = Unit {0}
IsOpen (shut b) = ⊥

advance_open : {q : Plan} {x y : State Meaning} {a : Answer} {ms : List Meaning} → Advanced (meanings q) q x a ms y → IsOpen y
advance_open (start_ahead e m) = tt
advance_open (wait_ahead e m) = tt
advance_open (still_ahead e m) = tt
advance_open (end_ahead e) = tt
advance_open (wait_back e m) = tt
advance_open (start_back e m) = tt
advance_open (still_back e m) = tt
advance_open end_back = tt

module _ {units : List Device} {q : Plan} (o : Ground units q) where
  -- a call that grants no turn or close takes as many as it is advances, and leaves the run open
  call_falls : {x y : State Meaning} {call : Call} {out : Outcome} {ms : List Meaning} → Keeps q x → Called (meanings q) q x call out ms y → Ungranted out → (due_at q y ≤ due_at q x - advances (call ∷ [])) × IsOpen y
  call_falls c (advanced s) u = (omega (arith, due_falls o (call_keeps o c (advanced s)).0 s), advance_open s)
  call_falls c (turned s) u = elim u [ ]
  call_falls c (closed h) u = elim u [ ]
  call_falls c (kept_open lo hi) u = (omega arith, tt)

  -- and so a history
  history_falls : {x y : State Meaning} {calls : List Call} {outs : List Outcome} {ms bs : List Meaning} → Keeps q x → History (meanings q) q x calls outs ms bs y → AllByRecursion Ungranted outs → (due_at q y ≤ due_at q x - advances calls) × IsOpen y
  history_falls c begun u = (omega arith, tt)
  history_falls c (then {calls} {outs} {call} {out} h s) u =
      let us = all_split Ungranted outs (out ∷ []) u in
      let w = history_falls c h us.0 in
      let v = call_falls (history_keeps o c h).0 s us.1.0 in
      (omega (arith, w.0, v.0, advances-++ calls (call ∷ [])), v.1)

  -- an open run with none due is at its end
  ended : (x : State Meaning) → Keeps q x → IsOpen x → due_at q x ≡ 0 → AtEnd q x
  ended (at k d b) c u z = let s = none_due q k d b z in (s, at_end o k d b c s)
  ended (shut b) c u z = u

pub reaches : Reaches
reaches units q count b calls outs moments left k d m more outs' moments' left' x s h h' u le =
    let o = ground s.sound s.opened in
    let here = (history_keeps o (begins_keeps units q count b s) h).0 in
    let w = history_falls o here h' u in
    ended o x (history_keeps o here h').0 w.1 (omega (arith, w.0, due_most o k d m here))

-- an advance and its answer
told : {X : Type 0} {w : Works X} {q : Plan} (k : ℕ) (d : Direction) {b : X} {a : Answer} {ms : List X} {x : State X} → Advanced w q (at k d b) a ms x → (a ≡ Arrived → steps_left q k d ≡ 0) × (steps_left q k d ≡ 0 → a ≡ Arrived)
told k d (start_ahead e m) = (λ n. let z : ◌≡◌ {A = ℕ} 0 1 = cc in absurd (omega arith), λ n. absurd (omega (arith, ap length e)))
told k d (wait_ahead e m) = (λ n. let z : ◌≡◌ {A = ℕ} 0 1 = cc in absurd (omega arith), λ n. absurd (omega (arith, ap length e)))
told k d (still_ahead e m) = (λ n. let z : ◌≡◌ {A = ℕ} 0 1 = cc in absurd (omega arith), λ n. absurd (omega (arith, ap length e)))
told k d (end_ahead e) = (λ n. ap length e, λ n. refl)
told k d (wait_back e m) = (λ n. let z : ◌≡◌ {A = ℕ} 0 1 = cc in absurd (omega arith), λ n. absurd (omega arith))
told k d (start_back e m) = (λ n. let z : ◌≡◌ {A = ℕ} 0 1 = cc in absurd (omega arith), λ n. absurd (omega arith))
told k d (still_back e m) = (λ n. let z : ◌≡◌ {A = ℕ} 0 1 = cc in absurd (omega arith), λ n. absurd (omega arith))
told k d end_back = (λ n. refl, λ n. refl)

pub called_told : {X : Type 0} {w : Works X} {q : Plan} (k : ℕ) (d : Direction) {b : X} {a : Answer} {ms : List X} {x : State X} → Called w q (at k d b) Advance (Answered a) ms x → (a ≡ Arrived → steps_left q k d ≡ 0) × (steps_left q k d ≡ 0 → a ≡ Arrived)
called_told k d (advanced s) = told k d s

pub arrives : Arrives
arrives = (reaches, λ q k d b a moments x s. called_told k d s)

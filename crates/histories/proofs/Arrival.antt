-- A run that is advanced often enough is at its end, and says so. Assumes nothing.
use Rattle.std.proofs.Common.{◌≡◌, ℕ, ◌+◌, ◌-◌, ◌≤◌, List, [], ◌∷◌, ◌++◌, length, refl, ap, arith}
use Rattle.std.specs.List.{AllByRecursion}
use Rattle.platform.specs.Units.{Device}
use Rattle.boards.specs.Meaning.{Meaning}
use Rattle.histories.specs.declared.run.Answer.{Answer}
use Rattle.histories.specs.declared.run.Answer.TheVariants.{Arrived}
use Rattle.histories.specs.declared.run.Call.{Call}
use Rattle.histories.specs.declared.run.Call.TheVariants.{Advance, Turn, Close}
use Rattle.histories.specs.declared.run.Direction.{Direction}
use Rattle.histories.specs.declared.run.Outcome.{Outcome}
use Rattle.histories.specs.declared.run.Outcome.TheVariants.{Answered}
use Rattle.histories.specs.Plans.{Plan, Opened, steps_left}
use Rattle.histories.specs.Runs.{State, at, shut, Advanced, start_ahead, wait_ahead, still_ahead, end_ahead, wait_back, start_back, still_back, end_back, Called, advanced, turned, closed, kept_open, History, begun, then}
use Rattle.histories.specs.Laws.{Ungranted, advances, AtEnd, Reaches, Arrives}
use Rattle.histories.proofs.Kept.{Keeps}
use Rattle.histories.proofs.Safety.{call_keeps, history_keeps, begins_keeps}
use Rattle.histories.proofs.Ends.{at_end}
use Rattle.histories.proofs.Due.{due_at, due_most, due_falls, none_due}

-- what holds of each element of a list in two parts
pub all_split : {A : Type 0} (P : A → Type 0) (xs ys : List A) → AllByRecursion P (xs ++ ys) → AllByRecursion P xs × AllByRecursion P ys
all_split P [] ys h = (tt, h)
all_split P (x ∷ xs) ys h = let w = all_split P xs ys h.1 in ((h.0, w.0), w.1)

-- the advances of a list in two parts
advances-++ : (xs ys : List Call) → advances (xs ++ ys) ≡ advances xs + advances ys
advances-++ [] ys = omega arith
advances-++ (Advance ∷ xs) ys = omega (arith, advances-++ xs ys)
advances-++ (Turn ∷ xs) ys = advances-++ xs ys
advances-++ (Close ∷ xs) ys = advances-++ xs ys

-- the run is open
abbrev IsOpen : State → Type 0
IsOpen (at k d b) = Unit {0}
IsOpen (shut b) = ⊥

advance_open : {q : Plan} {x y : State} {a : Answer} {ms : List Meaning} → Advanced q x a ms y → IsOpen y
advance_open (start_ahead e m) = tt
advance_open (wait_ahead e m) = tt
advance_open (still_ahead e m) = tt
advance_open (end_ahead e) = tt
advance_open (wait_back e m) = tt
advance_open (start_back e m) = tt
advance_open (still_back e m) = tt
advance_open end_back = tt

module _ {units : List Device} {q : Plan} {b₀ : Meaning} (o : Opened units q b₀) where
  -- a call that grants no turn or close takes as many as it is advances, and leaves the run open
  call_falls : {x y : State} {call : Call} {out : Outcome} {ms : List Meaning} → Keeps q x → Called q x call out ms y → Ungranted out → (due_at q y ≤ due_at q x - advances (call ∷ [])) × IsOpen y
  call_falls c (advanced s) u = (omega (arith, due_falls o (call_keeps o c (advanced s)).0 s), advance_open s)
  call_falls c (turned s) u = elim u [ ]
  call_falls c (closed h) u = elim u [ ]
  call_falls c (kept_open lo hi) u = (omega arith, tt)

  -- and so a history
  history_falls : {x y : State} {calls : List Call} {outs : List Outcome} {ms : List Meaning} → Keeps q x → History q x calls outs ms y → AllByRecursion Ungranted outs → (due_at q y ≤ due_at q x - advances calls) × IsOpen y
  history_falls c begun u = (omega arith, tt)
  history_falls c (then {calls} {outs} {call} {out} h s) u =
      let us = all_split Ungranted outs (out ∷ []) u in
      let w = history_falls c h us.0 in
      let v = call_falls (history_keeps o c h).0 s us.1.0 in
      (omega (arith, w.0, v.0, advances-++ calls (call ∷ [])), v.1)

  -- an open run with none due is at its end
  ended : (x : State) → Keeps q x → IsOpen x → due_at q x ≡ 0 → AtEnd q x
  ended (at k d b) c u z = let s = none_due q k d b z in (s, at_end o k d b c s)
  ended (shut b) c u z = u

pub reaches : Reaches
reaches units q b calls outs moments k d m more outs' moments' x s h h' u le =
    let o = s.opened in
    let here = (history_keeps o (begins_keeps units q b s) h).0 in
    let w = history_falls o here h' u in
    ended o x (history_keeps o here h').0 w.1 (omega (arith, w.0, due_most o k d m here))

-- an advance and its answer
told : {q : Plan} (k : ℕ) (d : Direction) {b : Meaning} {a : Answer} {ms : List Meaning} {x : State} → Advanced q (at k d b) a ms x → (a ≡ Arrived → steps_left q k d ≡ 0) × (steps_left q k d ≡ 0 → a ≡ Arrived)
told k d (start_ahead e m) = (λ n. let z : ◌≡◌ {A = ℕ} 0 1 = cc in absurd (omega arith), λ n. absurd (omega (arith, ap length e)))
told k d (wait_ahead e m) = (λ n. let z : ◌≡◌ {A = ℕ} 0 1 = cc in absurd (omega arith), λ n. absurd (omega (arith, ap length e)))
told k d (still_ahead e m) = (λ n. let z : ◌≡◌ {A = ℕ} 0 1 = cc in absurd (omega arith), λ n. absurd (omega (arith, ap length e)))
told k d (end_ahead e) = (λ n. ap length e, λ n. refl)
told k d (wait_back e m) = (λ n. let z : ◌≡◌ {A = ℕ} 0 1 = cc in absurd (omega arith), λ n. absurd (omega arith))
told k d (start_back e m) = (λ n. let z : ◌≡◌ {A = ℕ} 0 1 = cc in absurd (omega arith), λ n. absurd (omega arith))
told k d (still_back e m) = (λ n. let z : ◌≡◌ {A = ℕ} 0 1 = cc in absurd (omega arith), λ n. absurd (omega arith))
told k d end_back = (λ n. refl, λ n. refl)

called_told : {q : Plan} (k : ℕ) (d : Direction) {b : Meaning} {a : Answer} {ms : List Meaning} {x : State} → Called q (at k d b) Advance (Answered a) ms x → (a ≡ Arrived → steps_left q k d ≡ 0) × (steps_left q k d ≡ 0 → a ≡ Arrived)
called_told k d (advanced s) = told k d s

pub arrives : Arrives
arrives = (reaches, λ q k d b a moments x s. called_told k d s)

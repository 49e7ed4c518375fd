-- At each moment of a run every unit is in some mode. Assumes nothing.
use Rattle.std.proofs.Common.{ℕ, suc, ◌<◌, ◌≤◌, ◌≢◌, List, [], ◌∷◌, length, sym, refl, ◌∙◌, arith}
use native.Mathlib.Decide.{dec_lt}
use Rattle.std.specs.List.{AllByRecursion}
use Rattle.std.proofs.ByRecursion.{All-append, All-weaker}
use Rattle.platform.specs.Units.{Device}
use Rattle.boards.specs.Meaning.{Meaning, Between, Started, Polled}
use Rattle.histories.specs.declared.rail.Rail.{Rail}
use Rattle.histories.specs.declared.rail.Rail.TheVariants.{Moving}
use Rattle.histories.specs.declared.run.Answer.{Answer}
use Rattle.histories.specs.declared.run.Call.{Call}
use Rattle.histories.specs.declared.run.Direction.{Direction}
use Rattle.histories.specs.declared.run.Direction.TheVariants.{Forward, Backward}
use Rattle.histories.specs.declared.run.Outcome.{Outcome}
use Rattle.histories.specs.Spans.{InSpans, mix_of, InModes}
use Rattle.openings.specs.Plans.{Plan, rails_at}
use Rattle.openings.specs.Runs.{meanings, State, Advanced, start_ahead, wait_ahead, still_ahead, end_ahead, wait_back, start_back, still_back, end_back, towards, Restarted, none, pass, send, Called, advanced, turned, closed, kept_open, History, begun, then}
use Rattle.openings.specs.Laws.{AllInModes, Begins, SafeThroughout}
use Rattle.histories.proofs.Spans.{mix_in_spans}
use Rattle.openings.proofs.Opening.{Ground, ground, safe_at}
use Rattle.histories.proofs.Kept.{by_rail}
use Rattle.openings.proofs.Kept.{Holds, Kept, Keeps, holds_span, holds_as, advance_keeps}

-- with the first i rails sent to the ends of d, and the others still to those of d'
record Turning (n p : ℕ) (rails : ℕ → Rail) (d d' : Direction) (i : ℕ) (ms : List Meaning) (b : Meaning) : Type 0 where
  sent : (j : ℕ) → j < n → j < i → Holds d (rails j) (b.value j) (b.target j)
  left : (j : ℕ) → j < n → i ≤ j → Holds d' (rails j) (b.value j) (b.target j)
  patient : (j : ℕ) → j < n → b.credit j ≤ p
  moments : AllByRecursion (λ m. InSpans n rails m.value) ms

module _ {n p : ℕ} {rails : ℕ → Rail} {d : Direction} (d' : Direction) where
  -- every rail has a value in its span
  turning_spans : {i : ℕ} {ms : List Meaning} {b : Meaning} → Turning n p rails d d' i ms b → InSpans n rails b.value
  turning_spans {i} {b = b} w j h =
      elim (dec_lt j i) [
        | yes lt ↦ holds_span d (rails j) (b.value j) (b.target j) (w.sent j h lt)
        | no ge ↦ holds_span d' (rails j) (b.value j) (b.target j) (w.left j h (omega arith))
      ]

  -- a turn on its way through the rails
  restarted : {i : ℕ} {b b' : Meaning} {ms : List Meaning} → i ≤ n
      → ((j : ℕ) → j < n → Holds d' (rails j) (b.value j) (b.target j))
      → ((j : ℕ) → j < n → b.credit j ≤ p)
      → Restarted (record { started = Started n p; polled = Polled n }) rails d i b ms b' → Turning n p rails d d' i ms b'
  restarted le h c none = record { sent = λ j l z. absurd (omega arith); left = λ j l z. h j l; patient = c; moments = tt }
  restarted le h c (pass {i} {v} {b} {b'} {ms} was e) =
      let w = restarted (omega arith) h c was in
      let same : Holds d (rails i) (b'.value i) (b'.target i) =
      rw e (rw e at (w.left i le (omega arith))) in
      record {
        sent = by_rail (λ j. j < suc i → Holds d (rails j) (b'.value j) (b'.target j)) n i (λ _. same) (λ j l ne lt. w.sent j l (omega arith));
        left = λ j l ge. w.left j l (omega arith);
        patient = w.patient;
        moments = w.moments;
      }
  restarted le h c (send {i} {o} {t} {b} {b'} {b''} {ms} was e m) =
      let w = restarted (omega arith) h c was in
      let inside : Between o t (b'.value i) = (rw e at (w.left i le (omega arith))).0 in
      let w' : Turning n p rails d d' (suc i) ms b'' =
      record {
        sent = by_rail (λ j. j < suc i → Holds d (rails j) (b''.value j) (b''.target j)) n i
            (λ _. holds_as d {s = Moving o t} {x = b'.value i} {g = towards d o t} (inside, refl) e (m.value i le) m.target)
            (λ j l ne lt. holds_as d (w.sent j l (omega arith)) refl (m.value j l) (m.others j l ne).0);
        left = λ j l ge. let ne : j ≢ i = omega arith in holds_as d' (w.left j l (omega arith)) refl (m.value j l) (m.others j l ne).0;
        patient = by_rail (λ j. b''.credit j ≤ p) n i m.credit (λ j l ne. omega (arith, w.patient j l, (m.others j l ne).2));
        moments = w.moments;
      } in
      record {
        sent = w'.sent;
        left = w'.left;
        patient = w'.patient;
        moments = All-append (λ (m' : Meaning). InSpans n rails m'.value) ms (b'' ∷ []) w.moments (turning_spans w', tt);
      }

module _ {units : List Device} {q : Plan} (o : Ground units q) where
  -- values in the spans at a place put every unit in some mode
  held : (k : ℕ) → k ≤ length q.script → (m : Meaning) → InSpans q.rails (rails_at q k) m.value → InModes units (mix_of q.rails m.value)
  held k h m s = safe_at o k h (mix_of q.rails m.value) (mix_in_spans q.rails (rails_at q k) m.value s)

  in_modes : (k : ℕ) (d : Direction) (b : Meaning) → Kept q k d b → InModes units (mix_of q.rails b.value)
  in_modes k d b c = held k c.place b (λ i h. holds_span d (rails_at q k i) (b.value i) (b.target i) (c.rail i h))

  -- so at each moment of an advance
  advance_moments : {x y : State Meaning} {a : Answer} {ms : List Meaning} → Keeps q y → Advanced (meanings q) q x a ms y → AllInModes q.rails units ms
  advance_moments c (start_ahead {k} {b' = b'} e m) = (in_modes (suc k) Forward b' c, tt)
  advance_moments c (wait_ahead {k} {b' = b'} e m) = (in_modes (suc k) Forward b' c, tt)
  advance_moments c (still_ahead {k} {b' = b'} e m) = (in_modes k Forward b' c, tt)
  advance_moments c (end_ahead e) = tt
  advance_moments c (wait_back {k} {b' = b'} e m) = (in_modes k Backward b' c, tt)
  advance_moments c (start_back {k} {b' = b'} e m) = (in_modes k Backward b' c, tt)
  advance_moments c (still_back {k} {b' = b'} e m) = (in_modes (suc k) Backward b' c, tt)
  advance_moments c end_back = tt

  -- and of every call
  pub call_keeps : {x y : State Meaning} {call : Call} {out : Outcome} {ms : List Meaning} → Keeps q x → Called (meanings q) q x call out ms y → Keeps q y × AllInModes q.rails units ms
  call_keeps c (advanced s) = let w = advance_keeps o c s in (w, advance_moments w s)
  call_keeps c (turned {k} {d} {b} {b'} {ms} s) =
      let w = restarted d (omega arith) c.rail c.patient s in
      (record { place = c.place; rail = λ i h. w.sent i h h; patient = w.patient }, All-weaker (λ (m : Meaning). InSpans q.rails (rails_at q k) m.value) (λ (m : Meaning). InModes units (mix_of q.rails m.value)) (held k c.place) ms w.moments)
  call_keeps c (closed h) = (tt, tt)
  call_keeps c (kept_open lo hi) = (c, tt)

  -- and of every history
  pub history_keeps : {x y : State Meaning} {calls : List Call} {outs : List Outcome} {ms bs : List Meaning} → Keeps q x → History (meanings q) q x calls outs ms bs y → Keeps q y × AllInModes q.rails units ms
  history_keeps c (begun {k} {d} {b}) = (c, (in_modes k d b c, tt))
  history_keeps c (then {ms} {ms'} h s) =
      let w = history_keeps c h in
      let v = call_keeps w.0 s in
      (v.0, All-append (λ (m : Meaning). InModes units (mix_of q.rails m.value)) ms ms' w.1 v.1)

-- a run begins with what it keeps
pub begins_keeps : (units : List Device) (q : Plan) (count : ℕ) (b : Meaning) → Begins units q count b → Kept q 0 Forward b
begins_keeps units q count b s = record {
  place = omega arith;
  rail = λ i h. let f = s.opened.standing i h in (f.0, sym (s.stands.settled i h f.1) ∙ f.0);
  patient = s.stands.patient;
}

pub safe_throughout : SafeThroughout
safe_throughout units q count b calls outs moments left x s h = (history_keeps (ground s.sound s.opened) (begins_keeps units q count b s) h).1

-- Histories of boards are histories of their meanings. Assumes nothing.
use Rattle.std.proofs.Common.{◌≡◌, ℕ, List, [], ◌∷◌, map, refl, ◌∙◌, subst, subst₂}
use Rattle.std.proofs.lemmas.List.{map-append}
use Rattle.boards.specs.declared.meaning.Board.{Ghosts}
use Rattle.boards.specs.Meaning.{Started, Polled}
use Rattle.histories.specs.declared.rail.Rail.{Rail}
use Rattle.histories.specs.declared.run.Answer.{Answer}
use Rattle.histories.specs.declared.run.Call.{Call}
use Rattle.histories.specs.declared.run.Direction.{Direction}
use Rattle.histories.specs.declared.run.Outcome.{Outcome}
use Rattle.openings.specs.Plans.{Plan}
use Rattle.openings.specs.Runs.{meanings, State, at, shut, board_of, Advanced, start_ahead, wait_ahead, still_ahead, end_ahead, wait_back, start_back, still_back, end_back, Restarted, none, pass, send, Called, advanced, turned, closed, kept_open, History, begun, then}
use Rattle.runs.specs.Working.{meaning, Sent, Asked, boards}
use Rattle.promises.specs.Promise.{meant_state}

module _ {B : Type 0} (make : Ghosts B) (q : Plan) where
  -- the board has the plan's count of rails and its patience
  abbrev pub Fits : B → Type 0
  Fits b = (make.rails b ≡ q.rails) × (make.patience b ≡ q.patience)

  sent_fits : {b b' : B} {r t : ℕ} → Fits b → Sent make b r t b' → Fits b'
  sent_fits f m = (m.rails ∙ f.0, m.patience ∙ f.1)

  asked_fits : {b b' : B} {r : ℕ} {a : _} → Fits b → Asked make b r a b' → Fits b'
  asked_fits f m = (m.rails ∙ f.0, m.patience ∙ f.1)

  sent_meant : {b b' : B} {r t : ℕ} → Fits b → Sent make b r t b' → Started q.rails q.patience (meaning make b) r t (meaning make b')
  sent_meant {b} {b'} {r} {t} f m = subst₂ (λ n p. Started n p (meaning make b) r t (meaning make b')) f.0 f.1 m.meant

  asked_meant : {b b' : B} {r : ℕ} {a : _} → Fits b → Asked make b r a b' → Polled q.rails (meaning make b) r a (meaning make b')
  asked_meant {b} {b'} {r} {a} f m = subst (λ n. Polled n (meaning make b) r a (meaning make b')) f.0 m.meant

  -- an advance
  advanced_fits : {x y : State B} {a : Answer} {ms : List B} → Fits (board_of x) → Advanced (boards make) q x a ms y → Fits (board_of y)
  advanced_fits f (start_ahead e m) = sent_fits f m
  advanced_fits f (wait_ahead e m) = asked_fits f m
  advanced_fits f (still_ahead e m) = asked_fits f m
  advanced_fits f (end_ahead e) = f
  advanced_fits f (wait_back e m) = sent_fits f m
  advanced_fits f (start_back e m) = asked_fits f m
  advanced_fits f (still_back e m) = asked_fits f m
  advanced_fits f end_back = f

  advanced_meant : {x y : State B} {a : Answer} {ms : List B} → Fits (board_of x) → Advanced (boards make) q x a ms y → Advanced (meanings q) q (meant_state make x) a (map (meaning make) ms) (meant_state make y)
  advanced_meant f (start_ahead e m) = start_ahead e (sent_meant f m)
  advanced_meant f (wait_ahead e m) = wait_ahead e (asked_meant f m)
  advanced_meant f (still_ahead e m) = still_ahead e (asked_meant f m)
  advanced_meant f (end_ahead e) = end_ahead e
  advanced_meant f (wait_back e m) = wait_back e (sent_meant f m)
  advanced_meant f (start_back e m) = start_back e (asked_meant f m)
  advanced_meant f (still_back e m) = still_back e (asked_meant f m)
  advanced_meant f end_back = end_back

  -- a turn
  restarted_fits : {rails : ℕ → Rail} {d : Direction} {i : ℕ} {b b' : B} {ms : List B} → Fits b → Restarted (boards make) rails d i b ms b' → Fits b'
  restarted_fits f none = f
  restarted_fits f (pass s e) = restarted_fits f s
  restarted_fits f (send s e m) = sent_fits (restarted_fits f s) m

  restarted_meant : {rails : ℕ → Rail} {d : Direction} {i : ℕ} {b b' : B} {ms : List B} → Fits b → Restarted (boards make) rails d i b ms b' → Restarted (meanings q) rails d i (meaning make b) (map (meaning make) ms) (meaning make b')
  restarted_meant f none = none
  restarted_meant f (pass s e) = pass (restarted_meant f s) e
  restarted_meant f (send {b'' = b''} {ms = ms} s e m) =
      rw (map-append (meaning make) ms (b'' ∷ [])) (send (restarted_meant f s) e (sent_meant (restarted_fits f s) m))

  -- a call
  pub called_fits : {x y : State B} {call : Call} {out : Outcome} {ms : List B} → Fits (board_of x) → Called (boards make) q x call out ms y → Fits (board_of y)
  called_fits f (advanced s) = advanced_fits f s
  called_fits f (turned s) = restarted_fits f s
  called_fits f (closed h) = f
  called_fits f (kept_open lo hi) = f

  pub called_meant : {x y : State B} {call : Call} {out : Outcome} {ms : List B} → Fits (board_of x) → Called (boards make) q x call out ms y → Called (meanings q) q (meant_state make x) call out (map (meaning make) ms) (meant_state make y)
  called_meant f (advanced s) = advanced (advanced_meant f s)
  called_meant f (turned s) = turned (restarted_meant f s)
  called_meant f (closed h) = closed h
  called_meant f (kept_open lo hi) = kept_open lo hi

  -- and a history
  pub history_fits : {x y : State B} {calls : List Call} {outs : List Outcome} {ms bs : List B} → Fits (board_of x) → History (boards make) q x calls outs ms bs y → Fits (board_of y)
  history_fits f begun = f
  history_fits f (then h s) = called_fits (history_fits f h) s

  board_meant : (y : State B) → board_of (meant_state make y) ≡ meaning make (board_of y)
  board_meant (at k d b) = refl
  board_meant (shut b) = refl

  pub history_meant : {x y : State B} {calls : List Call} {outs : List Outcome} {ms bs : List B} → Fits (board_of x) → History (boards make) q x calls outs ms bs y
      → History (meanings q) q (meant_state make x) calls outs (map (meaning make) ms) (map (meaning make) bs) (meant_state make y)
  history_meant f begun = begun
  history_meant f (then {z = z} {ms = ms} {ms' = ms'} {bs = bs} h s) =
      rw (map-append (meaning make) ms ms', map-append (meaning make) bs (board_of z ∷ []), ← board_meant z) (then (history_meant f h) (called_meant (history_fits f h) s))

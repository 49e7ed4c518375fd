-- What each call makes of a run and its board, and histories of calls. Assumes nothing.
use Rattle.std.specs.Prelude.{◌≡◌, ℕ, zero, suc, ◌<◌, Bool, true, false, ◌⊎◌, List, [], ◌∷◌, ◌++◌, length, drop}
use Rattle.boards.specs.Meaning.{Meaning, Started, Polled}
use Rattle.histories.specs.declared.fault.RunFault.TheVariants.{Between}
use Rattle.histories.specs.declared.rail.Rail.{Rail}
use Rattle.histories.specs.declared.rail.Rail.TheVariants.{Still, Moving}
use Rattle.histories.specs.declared.run.Answer.{Answer}
use Rattle.histories.specs.declared.run.Answer.TheVariants.{Moved, Waiting, Arrived}
use Rattle.histories.specs.declared.run.Call.{Call}
use Rattle.histories.specs.declared.run.Call.TheVariants.{Advance, Turn, Close}
use Rattle.histories.specs.declared.run.Direction.{Direction}
use Rattle.histories.specs.declared.run.Direction.TheVariants.{Forward, Backward}
use Rattle.histories.specs.declared.run.Outcome.{Outcome}
use Rattle.histories.specs.declared.run.Outcome.TheVariants.{Answered, Granted, Refused}
use Rattle.histories.specs.declared.step.Step.{Step}
use Rattle.histories.specs.declared.step.Step.TheVariants.{Start, Wait}
use Rattle.histories.specs.Rails.{origin_of}
use Rattle.openings.specs.Plans.{Plan, rails_at, StepAt}

-- boards of some kind: what a start of a rail towards a target and a poll of a rail with its answer make of one
pub record Works (X : Type 0) : Type 1 where
  pub started : X → ℕ → ℕ → X → Type 0
  pub polled : X → ℕ → Bool → X → Type 0

-- boards by their meaning alone
abbrev pub meanings : Plan → Works Meaning
meanings q = record { started = Started q.rails q.patience; polled = Polled q.rails }

-- an open run with its place and direction, or a closed one; with the board
pub data State (X : Type 0) : Type 0 where
  at : ℕ → Direction → X → State X
  shut : X → State X

-- an advance, with its answer and the moments that it passes: going forward it does the step at its place, going backward it undoes the step before it
pub data Advanced {X : Type 0} (w : Works X) (q : Plan) : State X → Answer → List X → State X → Type 0 where
  -- forward, a start step starts its rail towards its target
  start_ahead : {k r t : ℕ} {rest : List Step} {b b' : X} → StepAt q k (Start r t) rest → w.started b r t b' → Advanced w q (at k Forward b) Moved (b' ∷ []) (at (suc k) Forward b')
  -- forward, a wait step polls its rail, and the answer is yes
  wait_ahead : {k r : ℕ} {rest : List Step} {b b' : X} → StepAt q k (Wait r) rest → w.polled b r true b' → Advanced w q (at k Forward b) Moved (b' ∷ []) (at (suc k) Forward b')
  -- or no: the place stays
  still_ahead : {k r : ℕ} {rest : List Step} {b b' : X} → StepAt q k (Wait r) rest → w.polled b r false b' → Advanced w q (at k Forward b) Waiting (b' ∷ []) (at k Forward b')
  -- at the script's end nothing is started or polled
  end_ahead : {k : ℕ} {b : X} → drop k q.script ≡ [] → Advanced w q (at k Forward b) Arrived [] (at k Forward b)
  -- backward, a wait step starts its rail towards its origin
  wait_back : {k r : ℕ} {rest : List Step} {b b' : X} → StepAt q k (Wait r) rest → w.started b r (origin_of (rails_at q k r)) b' → Advanced w q (at (suc k) Backward b) Moved (b' ∷ []) (at k Backward b')
  -- backward, a start step polls its rail, and the answer is yes
  start_back : {k r t : ℕ} {rest : List Step} {b b' : X} → StepAt q k (Start r t) rest → w.polled b r true b' → Advanced w q (at (suc k) Backward b) Moved (b' ∷ []) (at k Backward b')
  -- or no: the place stays
  still_back : {k r t : ℕ} {rest : List Step} {b b' : X} → StepAt q k (Start r t) rest → w.polled b r false b' → Advanced w q (at (suc k) Backward b) Waiting (b' ∷ []) (at (suc k) Backward b')
  -- at the script's beginning nothing is started or polled
  end_back : {b : X} → Advanced w q (at zero Backward b) Arrived [] (at zero Backward b)

-- the other direction
abbrev pub other : Direction → Direction
other Forward = Backward
other Backward = Forward

-- the end that a rail moving from o to t is sent to in a direction
abbrev pub towards : Direction → ℕ → ℕ → ℕ
towards Forward o t = t
towards Backward o t = o

-- of the first i rails each moving one is started towards its end, in rising order, with a moment after each start
pub data Restarted {X : Type 0} (w : Works X) (rails : ℕ → Rail) (d : Direction) : ℕ → X → List X → X → Type 0 where
  -- before the first rail
  none : {b : X} → Restarted w rails d zero b [] b
  -- a rail that stands is passed over
  pass : {i v : ℕ} {b b' : X} {ms : List X} → Restarted w rails d i b ms b' → rails i ≡ Still v → Restarted w rails d (suc i) b ms b'
  -- a rail that moves is started
  send : {i o t : ℕ} {b b' b'' : X} {ms : List X} → Restarted w rails d i b ms b' → rails i ≡ Moving o t → w.started b' i (towards d o t) b'' → Restarted w rails d (suc i) b (ms ++ (b'' ∷ [])) b''

-- a call on a run, with its outcome and the moments that it passes
pub data Called {X : Type 0} (w : Works X) (q : Plan) : State X → Call → Outcome → List X → State X → Type 0 where
  -- an advance is never refused
  advanced : {x y : State X} {a : Answer} {ms : List X} → Advanced w q x a ms y → Called w q x Advance (Answered a) ms y
  -- a turn is always granted, and sends each moving rail to its other end
  turned : {k : ℕ} {d : Direction} {b b' : X} {ms : List X} → Restarted w (rails_at q k) (other d) q.rails b ms b' → Called w q (at k d b) Turn Granted ms (at k (other d) b')
  -- a close is granted at either end of the script
  closed : {k : ℕ} {d : Direction} {b : X} → (k ≡ 0) ⊎ (k ≡ length q.script) → Called w q (at k d b) Close Granted [] (shut b)
  -- and refused between them
  kept_open : {k : ℕ} {d : Direction} {b : X} → 0 < k → k < length q.script → Called w q (at k d b) Close (Refused Between) [] (at k d b)

-- the board of a run, open or closed
abbrev pub board_of : {X : Type 0} → State X → X
board_of (at k d b) = b
board_of (shut b) = b

-- calls one after another, with their outcomes, all moments from the first state's on, and the board as each call left it
pub data History {X : Type 0} (w : Works X) (q : Plan) : State X → List Call → List Outcome → List X → List X → State X → Type 0 where
  -- no call yet
  begun : {k : ℕ} {d : Direction} {b : X} → History w q (at k d b) [] [] (b ∷ []) [] (at k d b)
  -- and one more call
  then : {x y z : State X} {calls : List Call} {outs : List Outcome} {ms ms' bs : List X} {call : Call} {out : Outcome} → History w q x calls outs ms bs y → Called w q y call out ms' z
      → History w q x (calls ++ (call ∷ [])) (outs ++ (out ∷ [])) (ms ++ ms') (bs ++ (board_of z ∷ [])) z

-- What each call makes of a run and its board, and histories of calls. Assumes nothing.
use Rattle.std.specs.Prelude.{◌≡◌, ℕ, zero, suc, ◌<◌, true, false, ◌⊎◌, List, [], ◌∷◌, ◌++◌, length, drop}
use Rattle.boards.specs.Meaning.{Meaning, Started, Polled}
use Rattle.histories.specs.declared.fault.RunFault.TheVariants.{Between}
use Rattle.histories.specs.declared.rail.Rail.{Rail}
use Rattle.histories.specs.declared.rail.Rail.TheVariants.{Still, Moving}
use Rattle.histories.specs.declared.run.Answer.{Answer}
use Rattle.histories.specs.declared.run.Answer.TheVariants.{Moved, Waiting, Arrived}
use Rattle.histories.specs.declared.run.Call.{Call}
use Rattle.histories.specs.declared.run.Call.TheVariants.{Advance, Turn, Close}
use Rattle.histories.specs.declared.run.Direction.{Direction}
use Rattle.histories.specs.declared.run.Direction.TheVariants.{Forward, Backward}
use Rattle.histories.specs.declared.run.Outcome.{Outcome}
use Rattle.histories.specs.declared.run.Outcome.TheVariants.{Answered, Granted, Refused}
use Rattle.histories.specs.declared.step.Step.{Step}
use Rattle.histories.specs.declared.step.Step.TheVariants.{Start, Wait}
use Rattle.histories.specs.Rails.{origin_of}
use Rattle.histories.specs.Plans.{Plan, rails_at, StepAt}

-- an open run with its place and direction, or a closed one; with the board
pub data State : Type 0 where
  at : ℕ → Direction → Meaning → State
  shut : Meaning → State

-- an advance, with its answer and the moments that it passes: going forward it does the step at its place, going backward it undoes the step before it
pub data Advanced (q : Plan) : State → Answer → List Meaning → State → Type 0 where
  -- forward, a start step starts its rail towards its target
  start_ahead : {k r t : ℕ} {rest : List Step} {b b' : Meaning} → StepAt q k (Start r t) rest → Started q.rails q.patience b r t b' → Advanced q (at k Forward b) Moved (b' ∷ []) (at (suc k) Forward b')
  -- forward, a wait step polls its rail, and the answer is yes
  wait_ahead : {k r : ℕ} {rest : List Step} {b b' : Meaning} → StepAt q k (Wait r) rest → Polled q.rails b r true b' → Advanced q (at k Forward b) Moved (b' ∷ []) (at (suc k) Forward b')
  -- or no: the place stays
  still_ahead : {k r : ℕ} {rest : List Step} {b b' : Meaning} → StepAt q k (Wait r) rest → Polled q.rails b r false b' → Advanced q (at k Forward b) Waiting (b' ∷ []) (at k Forward b')
  -- at the script's end nothing is started or polled
  end_ahead : {k : ℕ} {b : Meaning} → drop k q.script ≡ [] → Advanced q (at k Forward b) Arrived [] (at k Forward b)
  -- backward, a wait step starts its rail towards its origin
  wait_back : {k r : ℕ} {rest : List Step} {b b' : Meaning} → StepAt q k (Wait r) rest → Started q.rails q.patience b r (origin_of (rails_at q k r)) b' → Advanced q (at (suc k) Backward b) Moved (b' ∷ []) (at k Backward b')
  -- backward, a start step polls its rail, and the answer is yes
  start_back : {k r t : ℕ} {rest : List Step} {b b' : Meaning} → StepAt q k (Start r t) rest → Polled q.rails b r true b' → Advanced q (at (suc k) Backward b) Moved (b' ∷ []) (at k Backward b')
  -- or no: the place stays
  still_back : {k r t : ℕ} {rest : List Step} {b b' : Meaning} → StepAt q k (Start r t) rest → Polled q.rails b r false b' → Advanced q (at (suc k) Backward b) Waiting (b' ∷ []) (at (suc k) Backward b')
  -- at the script's beginning nothing is started or polled
  end_back : {b : Meaning} → Advanced q (at zero Backward b) Arrived [] (at zero Backward b)

-- the other direction
abbrev pub other : Direction → Direction
other Forward = Backward
other Backward = Forward

-- the end that a rail moving from o to t is sent to in a direction
abbrev pub towards : Direction → ℕ → ℕ → ℕ
towards Forward o t = t
towards Backward o t = o

-- of the first i rails each moving one is started towards its end, in rising order, with a moment after each start
pub data Restarted (n p : ℕ) (rails : ℕ → Rail) (d : Direction) : ℕ → Meaning → List Meaning → Meaning → Type 0 where
  -- before the first rail
  none : {b : Meaning} → Restarted n p rails d zero b [] b
  -- a rail that stands is passed over
  pass : {i v : ℕ} {b b' : Meaning} {ms : List Meaning} → Restarted n p rails d i b ms b' → rails i ≡ Still v → Restarted n p rails d (suc i) b ms b'
  -- a rail that moves is started
  send : {i o t : ℕ} {b b' b'' : Meaning} {ms : List Meaning} → Restarted n p rails d i b ms b' → rails i ≡ Moving o t → Started n p b' i (towards d o t) b'' → Restarted n p rails d (suc i) b (ms ++ (b'' ∷ [])) b''

-- a call on a run, with its outcome and the moments that it passes
pub data Called (q : Plan) : State → Call → Outcome → List Meaning → State → Type 0 where
  -- an advance is never refused
  advanced : {x y : State} {a : Answer} {ms : List Meaning} → Advanced q x a ms y → Called q x Advance (Answered a) ms y
  -- a turn is always granted, and sends each moving rail to its other end
  turned : {k : ℕ} {d : Direction} {b b' : Meaning} {ms : List Meaning} → Restarted q.rails q.patience (rails_at q k) (other d) q.rails b ms b' → Called q (at k d b) Turn Granted ms (at k (other d) b')
  -- a close is granted at either end of the script
  closed : {k : ℕ} {d : Direction} {b : Meaning} → (k ≡ 0) ⊎ (k ≡ length q.script) → Called q (at k d b) Close Granted [] (shut b)
  -- and refused between them
  kept_open : {k : ℕ} {d : Direction} {b : Meaning} → 0 < k → k < length q.script → Called q (at k d b) Close (Refused Between) [] (at k d b)

-- calls one after another, with their outcomes and all moments from the first state's on
pub data History (q : Plan) : State → List Call → List Outcome → List Meaning → State → Type 0 where
  -- no call yet
  begun : {k : ℕ} {d : Direction} {b : Meaning} → History q (at k d b) [] [] (b ∷ []) (at k d b)
  -- and one more call
  then : {x y z : State} {calls : List Call} {outs : List Outcome} {ms ms' : List Meaning} {call : Call} {out : Outcome} → History q x calls outs ms y → Called q y call out ms' z → History q x (calls ++ (call ∷ [])) (outs ++ (out ∷ [])) (ms ++ ms') z

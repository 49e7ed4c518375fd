-- A turn on its way through the rails, from what the code has in hand. Assumes nothing.
use Rattle.std.proofs.Common.{◌≡◌, ℕ, ◌+◌, ◌<◌, ◌≤◌, List, [], ◌∷◌, ◌++◌, ap, add-one, arith}
use Rattle.boards.specs.declared.meaning.Board.{Ghosts}
use Rattle.histories.specs.declared.rail.Rail.{Rail}
use Rattle.histories.specs.declared.rail.Rail.TheVariants.{Still, Moving}
use Rattle.histories.specs.declared.run.Direction.{Direction}
use Rattle.histories.specs.declared.run.Direction.TheVariants.{Forward, Backward}
use Rattle.histories.specs.Rails.{origin_of, end_of}
use Rattle.openings.specs.Plans.{rails_at}
use Rattle.openings.specs.Runs.{Works, Restarted, pass, send, towards}
use Rattle.openings.proofs.Lows.{low_rails}
use Rattle.runs.specs.declared.journey.Journey.{Journey}
use Rattle.runs.specs.Working.{plan_of, Suited}

-- the end that a moving rail is sent to is not above the ceiling
pub towards_low : {B : Type 0} (make : Ghosts B) (j : Journey) (b : B) → Suited make j b → (d : Direction) (i o t : ℕ) → i < j.rails → rails_at (plan_of make j b) j.place i ≡ Moving o t → towards d o t ≤ make.CEILING
towards_low make j b fits Forward i o t h e = omega (arith, ap end_of e, (low_rails (plan_of make j b) fits j.place i h).1)
towards_low make j b fits Backward i o t h e = omega (arith, ap origin_of e, (low_rails (plan_of make j b) fits j.place i h).0)

module _ {X : Type 0} {w : Works X} {rails : ℕ → Rail} {d : Direction} {i : ℕ} {b b' : X} where
  -- a rail that stands
  pub restart_pass : (v : ℕ) → rails i ≡ Still v → (ms : List X) × Restarted w rails d i b ms b' → (ms : List X) × Restarted w rails d (i + 1) b ms b'
  restart_pass v e s = (s.0, rw (add-one i) (pass s.1 e))

  -- a rail that moves
  pub restart_send : {b'' : X} (o t t' : ℕ) → rails i ≡ Moving o t → t' ≡ towards d o t → w.started b' i t' b'' → (ms : List X) × Restarted w rails d i b ms b' → (ms : List X) × Restarted w rails d (i + 1) b ms b''
  restart_send {b''} o t t' e et m s = (s.0 ++ (b'' ∷ []), rw (add-one i) (send s.1 e (rw et at m)))

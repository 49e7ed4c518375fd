use Rattle.std.proofs.Common.{◌≡◌, ℕ, ◌<◌, false}
use Rattle.platform.specs.Units.{value_of}
use Rattle.runs.proofs.journey.Journey.stands_on.Given as goal

abbrev pub invariant-loop-rail : goal.invariant-loop-rail
invariant-loop-rail g l = (i : ℕ) → i < l.rail → (g.B.Board.value l.board i ≡ value_of l.self.first.values i) × (g.B.Board.pending l.board i ≡ false)

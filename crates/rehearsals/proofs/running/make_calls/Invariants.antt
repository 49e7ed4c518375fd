use Rattle.runs.specs.Opening.{IsOpen}
use Rattle.promises.specs.Chains.{Noted}
use Rattle.rehearsals.proofs.running.make_calls.Given as goal

abbrev pub invariant-loop-i : goal.invariant-loop-i
invariant-loop-i g l = IsOpen l.run × Noted g.B.Board l.initial.run l.initial.board l.calls l.initial.log l.log l.i l.run l.board

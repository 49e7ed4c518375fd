use Rattle.std.specs.Fn.{FnReturnsAt}
use Rattle.spans.specs.Picking.{SafeBelow}
use Rattle.spans.proofs.judge.lowest_picked.Given as goal

abbrev pub invariant-loop-number : goal.invariant-loop-number
invariant-loop-number g l = SafeBelow (FnReturnsAt g.F.Fn l.picks) l.platform l.spans l.number

use Rattle.std.proofs.Common.{drop}
use Rattle.text.proofs.Numbers.{Sofar}
use Rattle.text.proofs.number.Given as goal

abbrev pub invariant-loop-b : goal.invariant-loop-b
invariant-loop-b l = Sofar l.limit l.field (drop l.b-index l.field) l.n

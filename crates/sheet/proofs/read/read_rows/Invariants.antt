use Rattle.std.proofs.Common.{length, vec_items}
use Rattle.sheet.proofs.Lines.{Sofar}
use Rattle.sheet.proofs.read.read_rows.Given as goal

abbrev pub invariant-loop-rest : goal.invariant-loop-rest
invariant-loop-rest g l = Sofar (g.L.Layout.sheet l.layout) l.bytes (vec_items l.rows) l.rest

abbrev pub decreases-loop-rest : goal.decreases-loop-rest
decreases-loop-rest g l = length l.rest

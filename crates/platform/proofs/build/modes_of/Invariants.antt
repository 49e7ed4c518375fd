use Rattle.std.proofs.Common.{◌≡◌, map, take, vec_items}
use Rattle.platform.specs.Describing.{modes_of, mode_from}
use Rattle.platform.proofs.build.modes_of.Given as goal

abbrev pub invariant-loop-row : goal.invariant-loop-row
invariant-loop-row l = vec_items l.out ≡ map (mode_from l.bounds) (modes_of l.unit (take l.row-index l.rows))

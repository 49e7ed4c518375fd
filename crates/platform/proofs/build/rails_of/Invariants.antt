use Rattle.std.proofs.Common.{◌≡◌, take}
use Rattle.platform.specs.Describing.{rail_count}
use Rattle.platform.proofs.build.rails_of.Given as goal

abbrev pub invariant-loop-row : goal.invariant-loop-row
invariant-loop-row l = l.rails ≡ rail_count (take l.row-index l.rows)

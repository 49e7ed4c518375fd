use Rattle.std.proofs.Common.{◌≡◌, take, vec_items}
use Rattle.platform.specs.Units.{value_of}
use Rattle.openings.specs.Orders.{singly}
use Rattle.rehearsal.proofs.steps.script_of.Given as goal

abbrev pub invariant-loop-rail : goal.invariant-loop-rail
invariant-loop-rail l = vec_items l.script ≡ singly (value_of l.last.values) (take l.rail-index l.rail-items)

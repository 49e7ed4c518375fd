use Rattle.std.proofs.Common.{◌≡◌, length}
use Rattle.settling.specs.Choices.{units_of}
use Rattle.settling.specs.Tolls.{cost_to}
use Rattle.settling.proofs.total.cost_of.Given as goal

abbrev pub invariant-loop-unit : goal.invariant-loop-unit
invariant-loop-unit g l = l.sum ≡ cost_to g.C.Cost.toll (units_of l.platform) (length l.yielded) l.fn.modes

use Rattle.std.proofs.Common.{◌≡◌, length}
use Rattle.settling.specs.Choices.{DemandedTo}
use Rattle.settling.specs.Narrowing.{Hold}
use Rattle.settling.proofs.windows.demanded.Given as goal

abbrev pub invariant-loop-demand : goal.invariant-loop-demand
invariant-loop-demand l = (length l.windows ≡ 24) × Hold (DemandedTo l.demand-index l.demands) l.windows

use Rattle.settling.proofs.Once.{settled_once}
use Rattle.settling.proofs.theorems.settled_once.Goals as goal

pub returns : goal.returns
returns g c = settled_once g.C.Cost.toll

use Rattle.settling.proofs.Hopes.{hopeless_exactly}
use Rattle.settling.proofs.theorems.hopeless_exactly.Goals as goal

pub returns : goal.returns
returns c = hopeless_exactly

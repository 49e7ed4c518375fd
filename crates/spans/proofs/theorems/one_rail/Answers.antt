use Rattle.spans.proofs.Moves.{one_rail}
use Rattle.spans.proofs.theorems.one_rail.Goals as goal

pub returns : goal.returns
returns c = one_rail

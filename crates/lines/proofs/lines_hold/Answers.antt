use Rattle.lines.proofs.Holding.{holds}
use Rattle.lines.proofs.lines_hold.Goals as goal

pub returns : goal.returns
returns c = holds

use Rattle.std.proofs.Common.{rules}
use Rattle.platform.specs.Units.{no_bounds}
use Rattle.scripts.proofs.proposal.Proposal.spans.Goals as goal

pub returns : goal.returns
returns c r lt = let made = c.from_fn.ensures.items.at r no_bounds lt in search rules

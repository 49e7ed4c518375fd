use Rattle.std.proofs.Common.{rules}
use Rattle.runs.proofs.Outcomes.{never}
use Rattle.runs.proofs.run.Run.journey_on.Goals as goal

pub returns-then-not-suited : goal.returns-then-not-suited
returns-then-not-suited g c = (c.in_ok-journey.journey.now, search rules, never c.if-not-suited.ensures.1)

use Rattle.std.proofs.Common.{replicate, rules}
use Rattle.spans.specs.Searching.{values_of}
use Rattle.spans.proofs.Picked.{judged_in}
use Rattle.spans.proofs.judge.first_bad.Goals as goal

pub returns : goal.returns
returns c =
    judged_in c.args.platform.now c.args.spans.now c.args.unit c.in_ok-unit.unit.now (search rules) (search rules) (search rules) (values_of (replicate 4 0)) c.first_unheld.result c.first_unheld.ensures

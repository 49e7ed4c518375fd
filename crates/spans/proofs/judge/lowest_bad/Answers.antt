use Rattle.std.proofs.Common.{rules, tests}
use Rattle.spans.proofs.Picked.{picked_all}
use Rattle.spans.proofs.judge.lowest_bad.Goals as goal

pub returns : goal.returns
returns c = picked_all c.args.platform.now c.args.spans.now c.lowest_picked.result c.lowest_picked.ensures (λ u out. search (rules, tests))

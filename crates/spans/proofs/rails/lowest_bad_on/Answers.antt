use Rattle.std.proofs.Common.{Some, None, rules, tests}
use Rattle.spans.proofs.Picked.{picked_on}
use Rattle.spans.proofs.rails.lowest_bad_on.Goals as goal

pub returns-in_err-unit : goal.returns-in_err-unit
returns-in_err-unit c = rw c.from_residual.ensures (picked_on c.args.platform.now c.args.spans.now c.args.rail None c.in_err-unit.ensures (λ u out touches. search (rules, tests)) (λ u out. search (rules, tests)))

pub returns : goal.returns
returns c = picked_on c.args.platform.now c.args.spans.now c.args.rail (Some c.in_ok-unit.field-0) c.in_ok-unit.ensures (λ u out touches. search (rules, tests)) (λ u out. search (rules, tests))

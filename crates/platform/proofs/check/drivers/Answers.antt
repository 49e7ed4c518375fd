use Rattle.std.proofs.Common.{◌+◌, ap, ◌∙◌, arith}
use Rattle.std.proofs.lemmas.List.{take_all}
use Rattle.platform.specs.Devices.{devices}
use Rattle.platform.specs.Rules.{drivers_among, drivers}
use Rattle.platform.proofs.Checking.{drivers_more, few_drivers}
use Rattle.platform.proofs.check.drivers.Goals as goal

pub loop-unit-preserved : goal.loop-unit-preserved
loop-unit-preserved c =
    let is = c.drivers_among-count.ensures ∙ ap (drivers_among c.args.rail) c.deref.ensures.value in (
      (λ j. c.loop-unit.invariant.0 j + is j) ∙ drivers_more c.args.rail c.args.units.now c.loop-unit.unit-index c.unit-item.result (omega arith) c.unit-item.is,
      omega (arith, c.loop-unit.invariant.1, is, few_drivers c.args.rail c.unit-item.result),
    )

pub returns : goal.returns
returns c = c.loop-unit.invariant.0 ∙ ap (λ l. drivers c.args.rail (devices l)) (take_all c.loop-unit.unit-index c.args.units.now (omega arith))

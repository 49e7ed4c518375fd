use Rattle.std.proofs.Common.{vec_items, rules, tests}
use Rattle.std.proofs.lemmas.Iterator.{YieldsList-from_slice, IsFirst-from_position}
use Rattle.platform.specs.Units.{AtRest}
use Rattle.platform.specs.Devices.{device, devices}
use Rattle.platform.specs.Resting.{LowestUnrested}
use Rattle.platform.proofs.Checking.{first_without}
use Rattle.platform.proofs.platform.Platform.lowest_unrested.Goals as goal

pub returns : goal.returns
returns c =
    let mix = c.args.mix.values in
    let us = vec_items c.args.self.now.units in
    first_without (λ u. AtRest u mix) (LowestUnrested (devices us) mix) us c.position.result
    (λ i lt no all. record { there = lt; unrested = no; lowest = all })
    (IsFirst-from_position _ _ c.position.result (λ u. AtRest (device u) mix → ⊥) (λ u. AtRest (device u) mix) c.position.ensures.ran (YieldsList-from_slice us cc) (λ x q k. search (rules, tests)) (λ x q k. search (rules, tests)))

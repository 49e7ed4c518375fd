use Rattle.std.proofs.Common.{rules, tests}
use Rattle.std.proofs.lemmas.Iterator.{YieldsList-from_slice, IsFirst-from_position}
use Rattle.platform.specs.Devices.{device, devices}
use Rattle.platform.specs.Rules.{Apart}
use Rattle.platform.specs.Making.{LowestTwice}
use Rattle.platform.proofs.Checking.{first_without}
use Rattle.platform.proofs.check.lowest_twice.Goals as goal

pub returns : goal.returns
returns c =
    first_without Apart (LowestTwice (devices c.args.units.now)) c.args.units.now c.position.result
    (λ i lt no all. record { there = lt; twice = no; lowest = all })
    (IsFirst-from_position _ _ c.position.result (λ u. Apart (device u) → ⊥) (λ u. Apart (device u)) c.position.ensures.ran (YieldsList-from_slice c.args.units.now cc) (λ x q k. search (rules, tests)) (λ x q k. search (rules, tests)))

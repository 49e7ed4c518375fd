use Rattle.std.proofs.Common.{◌≡◌, rules, tests, arith}
use Rattle.std.proofs.lemmas.Iterator.{first_from_Range}
use Rattle.platform.specs.Devices.{devices}
use Rattle.platform.specs.Rules.{drivers, Driven}
use Rattle.platform.specs.Making.{LowestUndriven}
use Rattle.platform.proofs.Checking.{match_weaker}
use Rattle.platform.proofs.check.lowest_undriven.Goals as goal

pub returns : goal.returns
returns c =
    match_weaker c.find.result _ (Driven c.args.rails (devices c.args.units.now)) _ (LowestUndriven c.args.rails (devices c.args.units.now))
    (λ all r lt. all r (omega arith) lt)
    (λ r first. record { there = first.1; undriven = first.2; lowest = λ s lt. first.3 s (omega arith) lt })
    (first_from_Range _ _ _ c.find.result (λ r. drivers r (devices c.args.units.now) ≡ 1 → ⊥) (λ r. drivers r (devices c.args.units.now) ≡ 1) c.find.ensures.ran (λ x q k. search (rules, tests)) (λ x q k. search (rules, tests)))

use Rattle.std.proofs.Common.{◌≡◌, ◌≤◌, vec_items, ap, ◌∙◌, subst, arith, rules}
use Rattle.sheets.specs.Sets.{rows_of}
use Rattle.platform.specs.Devices.{devices}
use Rattle.platform.specs.Rules.{Each, Apart, Driven}
use Rattle.platform.specs.Describing.{rail_count}
use Rattle.platform.specs.Making.{LowestTwice, LowestUndriven}
use Rattle.platform.proofs.Checking.{as_many}
use Rattle.platform.proofs.Made.{made_twice, made_undriven, made, few, facts}
use Rattle.platform.proofs.Regular.{regular}
use Rattle.platform.proofs.platform.Platform.new.Goals as goal
use Rattle.platform.proofs.platform.Platform.new.Goals.{After-deref-3, In_default-lowest_undriven}

pub returns-in-Some : goal.returns-in-Some
returns-in-Some c _ =
    made_twice (rows_of c.args.sheets.now) (devices (vec_items c.in_ok-units.units)) c.in_ok-units.ensures c.in-Some.unit
    (subst (λ us. LowestTwice (devices us) c.in-Some.unit) c.deref.ensures.value c.in-Some.ensures)

pub lowest_undriven-requires : goal.lowest_undriven-requires
lowest_undriven-requires c =
    let f = few (rows_of c.args.sheets.now) (devices c.deref-3.result.now) (ap devices c.deref-3.ensures.value ∙ c.in_ok-units.ensures) c.args.sheets.now.kept in
    omega (arith, f.0, as_many c.deref-3.result.now)

rails_are : (c : In_default-lowest_undriven) → c.rails_of-rails.result ≡ rail_count (rows_of c.args.sheets.now).pins
rails_are c = c.rails_of-rails.ensures ∙ ap rail_count c.deref-2.ensures.value

apart : (c : In_default-lowest_undriven) → Each Apart (devices (vec_items c.in_ok-units.units))
apart c = subst (λ us. Each Apart (devices us)) c.deref.ensures.value c.in_default.ensures

driven : (c : In_default-lowest_undriven) → Driven c.rails_of-rails.result (devices (vec_items c.in_ok-units.units))
driven c = subst (λ us. Driven c.rails_of-rails.result (devices us)) c.deref-3.ensures.value c.in_default-lowest_undriven.ensures

pub overflow_cast-result : goal.overflow_cast-result
overflow_cast-result c =
    let low = (regular (rows_of c.args.sheets.now) c.args.sheets.now.kept).0.1 in
    let small : c.rails_of-rails.result ≤ 24 = omega (arith, rails_are c) in
    search rules

pub invariant_of-result : goal.invariant_of-result
invariant_of-result c = (let all = facts (rows_of c.args.sheets.now) (devices (vec_items c.in_ok-units.units)) c.in_ok-units.ensures c.rails_of-rails.result (rails_are c) c.args.sheets.now.kept (apart c) (driven c)
    in record {
      rails_counted = all.0;
      units_counted = all.1.0;
      pins_counted = all.1.1.0;
      modes_counted = all.1.1.1.0;
      wired = all.1.1.1.1.0;
      apart = all.1.1.1.1.1.0;
      mild = all.1.1.1.1.1.1.0;
      cool = all.1.1.1.1.1.1.1.0;
      level = all.1.1.1.1.1.1.1.1.0;
      driven = all.1.1.1.1.1.1.1.1.1.0;
    })

pub returns-in-Some-lowest_undriven : goal.returns-in-Some-lowest_undriven
returns-in-Some-lowest_undriven c _ =
    made_undriven (rows_of c.args.sheets.now) (devices (vec_items c.in_ok-units.units)) c.in_ok-units.ensures c.rails_of-rails.result (c.rails_of-rails.ensures ∙ ap rail_count c.deref-2.ensures.value)
    (subst (λ us. Each Apart (devices us)) c.deref.ensures.value c.in_default.ensures) c.in-Some-lowest_undriven.rail
    (subst (λ us. LowestUndriven c.rails_of-rails.result (devices us) c.in-Some-lowest_undriven.rail) c.deref-3.ensures.value c.in-Some-lowest_undriven.ensures)

pub returns : goal.returns
returns c =
    let b = (goal.at.returns c).In_default-lowest_undriven in
    made (rows_of c.args.sheets.now) (devices (vec_items c.in_ok-units.units)) c.in_ok-units.ensures c.rails_of-rails.result (rails_are b) (apart b) (driven b)

use Rattle.std.proofs.Common.{◌≡◌, length, sym, ap, arith, rules}
use Rattle.std.proofs.lemmas.List.{length_push}
use Rattle.std.proofs.lemmas.Slice.Zip.{zip_turn, zip_end}
use Rattle.platform.specs.Units.{unit_at, mode_at}
use Rattle.platform.specs.Devices.{devices}
use Rattle.platform.proofs.Checking.{as_many}
use Rattle.settling.specs.Choices.{mode_of, units_of}
use Rattle.settling.proofs.Costs.{cost_next, cost_room}
use Rattle.settling.proofs.Drafts.{next_unit}
use Rattle.settling.proofs.total.cost_of.Goals as goal

pub plus-sum-requires : goal.plus-sum-requires
plus-sum-requires g c =
    let t = g.C.Cost.toll in
    let us = units_of c.args.platform.now in
    let k = length c.loop-unit.yielded in
    let turn = zip_turn c.units.result.now c.args.modes c.loop-unit.yielded c.into_iter-unit-iterator.result c.loop-unit.unit-iterator c.next.new.self c.next.result (cc) (cc) c.loop-unit.yielded_by (c.in-Some.unit, c.in-Some.mode) c.in-Some.is c.next.ensures.steps in
    let next = next_unit c.args.platform.now c.units.result.now k c.in-Some.unit.now c.units.ensures.value turn.0 (turn.2 _) in
    let is = next.is in
    let mode = turn.3 0 in
    let sound = next.sound.1 in
    let adds : t.of (mode_at (unit_at us k) (mode_of c.args.modes k)) ≡ c.mode_cost.result = cc in
    rw (sym c.loop-unit.invariant, adds) at (cost_room g.C.Cost.laws us sound.mild sound.units_counted.1 k next.within c.args.modes (mode_of c.args.modes k))

pub loop-unit-preserved : goal.loop-unit-preserved
loop-unit-preserved g c =
    let t = g.C.Cost.toll in
    let us = units_of c.args.platform.now in
    let k = length c.loop-unit.yielded in
    let turn = zip_turn c.units.result.now c.args.modes c.loop-unit.yielded c.into_iter-unit-iterator.result c.loop-unit.unit-iterator c.next.new.self c.next.result (cc) (cc) c.loop-unit.yielded_by (c.in-Some.unit, c.in-Some.mode) c.in-Some.is c.next.ensures.steps in
    let next = next_unit c.args.platform.now c.units.result.now k c.in-Some.unit.now c.units.ensures.value turn.0 (turn.2 _) in
    let is = next.is in
    let mode = turn.3 0 in
    let adds : t.of (mode_at (unit_at us k) (mode_of c.args.modes k)) ≡ c.mode_cost.result = cc in
    let more = length_push c.loop-unit.yielded (c.in-Some.unit, c.in-Some.mode) in
    let so_far = c.loop-unit.invariant in
    let one = cost_next g.C.Cost.laws us k c.args.modes in
    let plus = c.plus-sum.ensures in
    cc

pub returns : goal.returns
returns g c =
    let us = units_of c.args.platform.now in
    let end = zip_end c.units.result.now c.args.modes c.loop-unit.yielded c.into_iter-unit-iterator.result c.loop-unit.unit-iterator c.next.new.self c.next.result (cc) (cc) c.loop-unit.yielded_by c.in-None.is c.next.ensures.steps in
    let long : length c.args.modes ≡ 24 = search rules in
    let all : length c.loop-unit.yielded ≡ length us = omega (arith, end, ap (λ us. length (devices us)) c.units.ensures.value, as_many c.units.result.now, c.args.platform.now.units_counted.1) in
    rw all at c.loop-unit.invariant

use Rattle.std.proofs.Common.{◌≡◌, map, vec_items, ap, ◌∙◌, arith}
use Rattle.std.specs.List.{range_with_len}
use Rattle.sheets.specs.Turns.{unit_count}
use Rattle.sheets.specs.Sets.{rows_of}
use Rattle.platform.specs.Describing.{unit_from}
use Rattle.platform.proofs.Building.{units_more}
use Rattle.platform.proofs.build.units_from.Goals as goal

pub loop-unit-preserved : goal.loop-unit-preserved
loop-unit-preserved c = units_more (rows_of c.args.sheets.now) c.loop-unit.unit (vec_items c.loop-unit.out) _ c.loop-unit.invariant c.in_ok-unit_from.ensures c.in_ok-push.ensures.items

pub returns : goal.returns
returns c =
    let e : c.loop-unit.unit ≡ c.units_of-unit-end.result = omega arith in
    c.loop-unit.invariant ∙ ap (λ n. map (unit_from (rows_of c.args.sheets.now)) (range_with_len 0 n)) (e ∙ c.units_of-unit-end.ensures ∙ ap unit_count c.deref.ensures.value)

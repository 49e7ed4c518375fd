use Rattle.std.proofs.Common.{◌≡◌, map, vec_items, sym, ap, ◌∙◌, subst}
use Rattle.sheets.specs.Sets.{rows_of}
use Rattle.platform.specs.Units.{Device}
use Rattle.platform.specs.Rules.{PinsCounted, ModesCounted, Wired}
use Rattle.sheets.specs.Turns.{pins_of}
use Rattle.platform.specs.Describing.{pin_from, modes_of, mode_from, unit_from}
use Rattle.platform.proofs.Regular.{unit_regular}
use Rattle.platform.proofs.build.unit_from.Goals as goal

pub invariant_of-result : goal.invariant_of-result
invariant_of-result c =
    let rows = rows_of c.args.sheets.now in
    let pins = c.in_ok-pins.ensures ∙ ap (λ l. map pin_from (pins_of c.args.unit l)) c.deref.ensures.value in
    let modes = c.in_ok-modes.ensures ∙ ap (λ l. map (mode_from c.deref-3.result.now) (modes_of c.args.unit l)) c.deref-2.ensures.value ∙ ap (λ l. map (mode_from l) (modes_of c.args.unit rows.modes)) c.deref-3.ensures.value in
    let made : Device = record { pins = vec_items c.in_ok-pins.pins; modes = vec_items c.in_ok-modes.modes } in
    let is : made ≡ unit_from rows c.args.unit = (λ i. record { pins = pins i; modes = modes i }) in
    let u = unit_regular rows c.args.unit c.args.sheets.now.kept c.requires in
    record { pins_counted = subst PinsCounted (sym is) u.0; modes_counted = subst ModesCounted (sym is) u.1; wired = subst (Wired 24) (sym is) u.2 }

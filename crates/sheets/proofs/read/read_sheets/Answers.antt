use Rattle.std.proofs.Common.{Ok, vec_items, ap, ◌∙◌}
use Rattle.std.proofs.lemmas.Result.{err_from_is_err_and}
use Rattle.sheets.specs.Turns.{unit_count}
use Rattle.sheets.proofs.Readings.{beside, at_pins, at_modes, at_bounds, at_demands, all_read, all_kept}
use Rattle.sheets.proofs.read.read_sheets.Goals as goal

pub returns-in_err-pins : goal.returns-in_err-pins
returns-in_err-pins c = let p = err_from_is_err_and c.from_residual.result c.from_residual.ensures.1 in rw (p.1, p.2) (λ h. at_pins _ _ _ _ _ (c.in_err-pins.ensures h))

pub returns-in_err-modes : goal.returns-in_err-modes
returns-in_err-modes c =
    let p = err_from_is_err_and c.from_residual-in_err-modes.result c.from_residual-in_err-modes.ensures.1 in
    rw (p.1, p.2) (λ h. at_modes _ _ _ _ (vec_items c.in_ok-pins.pins) c.in_ok-pins.ensures c.units_of.result (c.units_of.ensures ∙ ap unit_count c.deref.ensures.value) _ (c.in_err-modes.ensures h))

pub returns-in_err-bounds : goal.returns-in_err-bounds
returns-in_err-bounds c =
    let p = err_from_is_err_and c.from_residual-in_err-bounds.result c.from_residual-in_err-bounds.ensures.1 in
    rw (p.1, p.2) (λ h. at_bounds _ _ _ _ (vec_items c.in_ok-pins.pins) c.in_ok-pins.ensures (vec_items c.in_ok-modes.modes) c.units_of.result (c.units_of.ensures ∙ ap unit_count c.deref.ensures.value) c.in_ok-modes.ensures _ (beside _ _ c.deref-2.ensures.value c.deref-3.ensures.value (c.in_err-bounds.ensures h)))

pub returns-in_err-demands : goal.returns-in_err-demands
returns-in_err-demands c =
    let p = err_from_is_err_and c.from_residual-in_err-demands.result c.from_residual-in_err-demands.ensures.1 in
    rw (p.1, p.2) (λ h. at_demands _ _ _ _ (vec_items c.in_ok-pins.pins) c.in_ok-pins.ensures (vec_items c.in_ok-modes.modes) c.units_of.result (c.units_of.ensures ∙ ap unit_count c.deref.ensures.value) c.in_ok-modes.ensures (vec_items c.in_ok-bounds.bounds) (beside _ (Ok (vec_items c.in_ok-bounds.bounds)) c.deref-2.ensures.value c.deref-3.ensures.value c.in_ok-bounds.ensures) _ (c.in_err-demands.ensures h))

pub invariant_of-result : goal.invariant_of-result
invariant_of-result c = record { kept = ∣ all_kept _ _ _ c.args.four.demands.now (vec_items c.in_ok-pins.pins) c.in_ok-pins.ensures (vec_items c.in_ok-modes.modes) c.units_of.result (c.units_of.ensures ∙ ap unit_count c.deref.ensures.value) c.in_ok-modes.ensures (vec_items c.in_ok-bounds.bounds) (beside _ (Ok (vec_items c.in_ok-bounds.bounds)) c.deref-2.ensures.value c.deref-3.ensures.value c.in_ok-bounds.ensures) (vec_items c.in_ok-demands.demands) c.in_ok-demands.ensures ∣₁ }

pub returns : goal.returns
returns c = all_read _ _ _ _ (vec_items c.in_ok-pins.pins) c.in_ok-pins.ensures (vec_items c.in_ok-modes.modes) c.units_of.result (c.units_of.ensures ∙ ap unit_count c.deref.ensures.value) c.in_ok-modes.ensures (vec_items c.in_ok-bounds.bounds) (beside _ (Ok (vec_items c.in_ok-bounds.bounds)) c.deref-2.ensures.value c.deref-3.ensures.value c.in_ok-bounds.ensures) (vec_items c.in_ok-demands.demands) c.in_ok-demands.ensures

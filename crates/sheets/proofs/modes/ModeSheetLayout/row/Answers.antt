use Rattle.std.proofs.Common.{refl, arith}
use Rattle.sheet.proofs.Rows.{no_number}
use Rattle.sheets.proofs.modes.ModeSheetLayout.row.Goals as goal

pub returns-in_err-heat : goal.returns-in_err-heat
returns-in_err-heat c = rw c.from_residual-in_err-heat.ensures (λ m e h. no_number c.args.fields.now _ 4 15 (omega arith) c.in_err-heat.ensures _ e m.heat refl h.heat)

use Rattle.std.proofs.Common.{refl, arith}
use Rattle.sheet.proofs.Rows.{no_number}
use Rattle.sheets.proofs.bounds.BoundSheetLayout.row.Goals as goal

pub returns-in_err-high : goal.returns-in_err-high
returns-in_err-high c = rw c.from_residual-in_err-high.ensures (λ m e h. no_number c.args.fields.now _ 4 65535 (omega arith) c.in_err-high.ensures _ e m.high refl h.high)

use Rattle.std.proofs.lemmas.Result.{err_from_is_err_and}
use Rattle.sheets.specs.Sets.{rows_of}
use Rattle.platform.specs.Making.{model_of}
use Rattle.platform.proofs.Asking.{at_sheets, at_platform, asked}
use Rattle.platform.proofs.inquiry.read_inquiry.Goals as goal

pub returns-in_err-sheets : goal.returns-in_err-sheets
returns-in_err-sheets c = let p = err_from_is_err_and c.from_residual.result c.from_residual.ensures.1 in rw (p.1, p.2) (λ h. at_sheets _ _ _ _ _ (c.in_err-sheets.ensures h))

pub returns-in_err-platform : goal.returns-in_err-platform
returns-in_err-platform c =
    let p = err_from_is_err_and c.from_residual-in_err-platform.result c.from_residual-in_err-platform.ensures.1 in
    rw (p.1, p.2) (λ h. at_platform _ _ _ _ (rows_of c.in_ok-sheets.sheets) c.in_ok-sheets.ensures _ (c.in_err-platform.ensures h))

pub returns : goal.returns
returns c = asked _ _ _ _ (rows_of c.in_ok-sheets.sheets) c.in_ok-sheets.ensures (model_of c.in_ok-platform.platform) c.in_ok-platform.ensures

use Rattle.std.proofs.Common.{refl, arith}
use Rattle.std.proofs.lemmas.List.{get_or_default}
use Rattle.std.proofs.lemmas.Result.{err_from_is_err_and}
use Rattle.boards.proofs.Tables.{unmakable}
use Rattle.boards.proofs.bench.Bench.new.Goals as goal

pub returns-in_err-rail : goal.returns-in_err-rail
returns-in_err-rail g c =
    let rail = g.R.Rail in
    let p = err_from_is_err_and c.from_residual.result c.from_residual.ensures.1 in
    let unfit = c.in_err-rail.ensures in
    rw (p.1, p.2) (unfit.0, unmakable rail.unset rail.suits rail.CEILING c.args.count c.args.settings.now c.args.first.now.values 0 _ _ (omega arith) (get_or_default c.args.settings.now 0 c.index-settings-0.result rail.unset (omega arith)) refl unfit.1)

use Rattle.std.proofs.Common.{rules}
use Rattle.std.proofs.lemmas.Result.{err_from_is_err_and}
use Rattle.histories.specs.declared.run.Call.TheVariants.{Advance}
use Rattle.runs.proofs.Outcomes.{on_refused, on_advance}
use Rattle.runs.proofs.run.Run.advance.Goals as goal

pub returns-in_err-journey_on : goal.returns-in_err-journey_on
returns-in_err-journey_on g c =
    let p = err_from_is_err_and c.from_residual.result c.from_residual.ensures.1 in
    rw (p.1, p.2) (on_refused g.B.Board c.args.self.now c.args.board.now Advance tt c.in_err-journey_on.field-0.0 c.in_err-journey_on.ensures)

pub returns : goal.returns
returns g c = on_advance g.B.Board c.args.self.now c.args.board.now c.in-Some.journey.now c.work-answer.new.self c.work-answer.new.board c.work-answer.result (search rules) (search rules) c.work-answer.ensures

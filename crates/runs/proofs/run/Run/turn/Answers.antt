use Rattle.std.proofs.Common.{rules}
use Rattle.std.proofs.lemmas.Result.{err_from_is_err_and}
use Rattle.histories.specs.declared.run.Call.TheVariants.{Turn}
use Rattle.runs.proofs.Outcomes.{on_refused, on_turn}
use Rattle.runs.proofs.run.Run.turn.Goals as goal

pub returns-in_err-journey_on : goal.returns-in_err-journey_on
returns-in_err-journey_on g c =
    let p = err_from_is_err_and c.from_residual.result c.from_residual.ensures.1 in
    rw (p.1, p.2) (on_refused g.B.Board c.args.self.now c.args.board.now Turn tt c.in_err-journey_on.field-0.0 c.in_err-journey_on.ensures)

pub returns : goal.returns
returns g c = on_turn g.B.Board c.args.self.now c.args.board.now c.in-Some.journey.now c.turn_round.new.self c.turn_round.new.board (search rules) (search rules) c.turn_round.ensures

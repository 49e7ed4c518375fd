use Rattle.std.proofs.Common.{[], rules}
use Rattle.std.proofs.lemmas.Result.{MatchResult-weaker}
use Rattle.runs.proofs.Outcomes.{granted_by, closes}
use Rattle.rehearsals.proofs.calling.make_call.Goals as goal

pub returns-in-Close : goal.returns-in-Close
returns-in-Close g c =
    let r = c.close.result in
    let told = granted_by r c.map_or_else-in-Close.result (MatchResult-weaker r c.map_or_else-in-Close.ensures (λ x said. search rules) (λ e said. search rules)) in
    rw (c.in-Close.is, told) ([], closes g.B.Board c.args.run.now c.close.new.self c.args.board.now r c.close.ensures)

use Rattle.std.proofs.Common.{◌≡◌, List}
use Rattle.openings.specs.Plans.{rails_at}
use Rattle.openings.specs.Runs.{Restarted}
use Rattle.runs.specs.Working.{boards, plan_of}
use Rattle.runs.proofs.journey.Journey.restart.Given as goal

abbrev pub invariant-loop-rail : goal.invariant-loop-rail
invariant-loop-rail g l =
    (g.B.Board.rails l.board ≡ g.B.Board.rails l.initial.board)
    × (g.B.Board.patience l.board ≡ g.B.Board.patience l.initial.board)
    × ((moments : List g.row.B.Denot) × Restarted (boards g.B.Board) (rails_at (plan_of g.B.Board l.self l.initial.board) l.self.place) l.direction l.rail l.initial.board moments l.board)

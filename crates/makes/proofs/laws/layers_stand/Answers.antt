use Rattle.makes.proofs.Layers.{steady_runs}
use Rattle.makes.proofs.laws.layers_stand.Goals as goal

pub returns : goal.returns
returns g c = steady_runs g.B.Board.starts g.B.Board.polls

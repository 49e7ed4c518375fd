use Rattle.std.proofs.Common.{refl}
use Rattle.runs.proofs.journey.Journey.turn_round.Goals as goal

pub returns : goal.returns
returns g c = record {
  moments = c.restart.ensures.0;
  restarted = rw c.reversed-direction.ensures at c.restart.ensures.1;
  place = refl;
  direction = c.reversed-direction.ensures;
  same = record { rails = refl; first = refl; steps = refl };
}

use Rattle.openings.proofs.Safety.{safe_throughout}
use Rattle.openings.proofs.Arrival.{arrives}
use Rattle.openings.proofs.Orders.{no_way_round}
use Rattle.openings.proofs.theorems.openings_stand.Goals as goal

pub returns : goal.returns
returns c = record { safe = safe_throughout; arrives = arrives; orders = no_way_round }

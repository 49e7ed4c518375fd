use Rattle.histories.proofs.Spans.{span_exact, safety_exact}
use Rattle.histories.proofs.Safety.{safe_throughout}
use Rattle.histories.proofs.Arrival.{arrives}
use Rattle.histories.proofs.Orders.{no_way_round}
use Rattle.histories.proofs.theorems.histories_stand.Goals as goal

pub returns : goal.returns
returns c = record { safe = safe_throughout; arrives = arrives; orders = no_way_round; values = span_exact; spans = safety_exact }

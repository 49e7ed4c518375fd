use Rattle.ordering.proofs.Places.{place_short}
use Rattle.ordering.proofs.search.Search.has.Goals as goal

pub overflow_shr-result : goal.overflow_shr-result
overflow_shr-result c = place_short c.args.self.now c.args.rail c.requires

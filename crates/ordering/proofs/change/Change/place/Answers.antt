use Rattle.std.proofs.Common.{take, sym, ◌∙◌, rules, tests, zip}
use Rattle.std.proofs.lemmas.Iterator.{YieldsList-from_slice, YieldsList-from_take, YieldsList-from_zip}
use Rattle.std.proofs.lemmas.Iterator.Consumers.{YieldsList-from_filter, YieldsList-at, count_from_yields_List}
use Rattle.std.proofs.lemmas.List.Sums.{length-filter}
use Rattle.ordering.proofs.Counts.{differ, rank_counts}
use Rattle.ordering.proofs.change.Change.place.Goals as goal

pub returns : goal.returns
returns c =
    let xs = c.args.self.now.first.now.values in
    let ys = c.args.self.now.last.now.values in
    let r = c.args.rail in
    count_from_yields_List c.filter.result c.count.result c.count.ensures.ran
    (YieldsList-from_filter _ differ (YieldsList-at c.filter.ensures.source (YieldsList-from_take r (YieldsList-from_zip (YieldsList-from_slice xs cc) (YieldsList-from_slice ys cc)) cc)) c.filter.ensures.closure (λ x b q k. search (rules, tests)))
    ∙ length-filter differ (take r (zip xs ys))
    ∙ sym (rank_counts xs ys (search rules) r (search rules))

use Rattle.std.proofs.Common.{rules, tests}
use Rattle.std.proofs.lemmas.Iterator.{YieldsList-from_slice, YieldsList-from_map}
use Rattle.std.proofs.lemmas.Iterator.Consumers.{YieldsList-from_filter, YieldsList-at}
use Rattle.std.proofs.lemmas.Iterator.Adapters.{items_from_extend}
use Rattle.sheets.specs.Turns.{in_unit, pin_place}
use Rattle.sheets.proofs.bounds.add_places.Goals as goal

pub returns : goal.returns
returns c =
    let added =
    items_from_extend c.extend.result c.extend.ensures.ran
    (YieldsList-from_map _ (pin_place c.args.mode.now)
    (YieldsList-at c.map.ensures.source (YieldsList-from_filter _ (in_unit c.args.mode.now.unit) (YieldsList-from_slice c.args.pins.now cc) c.filter-own.ensures.closure (λ x r q k. search (rules, tests))))
    c.map.ensures.closure (λ x r q k. search (rules, tests))) in
    search rules

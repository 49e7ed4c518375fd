use Rattle.std.proofs.Common.{◌≡◌, fold, take, ap, ◌∙◌, rules}
use Rattle.std.proofs.lemmas.Iterator.{YieldsList-from_slice}
use Rattle.std.proofs.lemmas.Iterator.Consumers.{fold_from_yields_List}
use Rattle.platform.specs.Units.{value_of}
use Rattle.histories.specs.declared.rail.Rail.TheVariants.{Still}
use Rattle.scripts.proofs.Steps.{by, fold_after}
use Rattle.scripts.proofs.rails.rail_at.Goals as goal

pub returns : goal.returns
returns c =
    let first = value_of c.args.first.now.values in
    let script = c.args.script.now in
    let start : c.unwrap_or-value.result ≡ first c.args.rail = search rules in
    fold_from_yields_List _ (by c.args.rail) (Still c.unwrap_or-value.result) c.fold.result c.fold.ensures.ran (YieldsList-from_slice (take c.args.place script) (search rules)) (λ a x b q k. search rules)
    ∙ ap (λ v. fold (by c.args.rail) (Still v) (take c.args.place script)) start
    ∙ fold_after first script c.args.place c.args.rail

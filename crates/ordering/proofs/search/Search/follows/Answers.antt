use Rattle.std.proofs.Common.{length, get_or, set, ap, subst, ◌∙◌, arith, MatchOption}
use Rattle.std.proofs.lemmas.List.{set-set, set-get_or}
use Rattle.platform.specs.declared.parts.Bounds.{Bounds}
use Rattle.platform.specs.Units.{no_bounds}
use Rattle.platform.specs.Making.{model_of}
use Rattle.spans.specs.Judging.{AllSafeOn, LowestBadOn}
use Rattle.ordering.proofs.Trying.{sound_of, next_says}
use Rattle.ordering.proofs.search.Search.follows.Goals as goal

pub returns-clause-same : goal.returns-clause-same
returns-clause-same c =
    let spans = c.args.spans.now in
    let rail = c.args.rail in
    c.drop-trial.ensures ∙ set-set spans rail c.way.result (get_or spans rail no_bounds) ∙ set-get_or spans rail no_bounds

pub returns-clause-says : goal.returns-clause-says
returns-clause-says c =
    let s = c.args.self.now.change in
    let p = s.platform.now in
    next_says (model_of p) (sound_of p) s.first.now.values s.last.now.values c.args.spans.now c.args.set c.args.rail (omega (arith, p.rails_counted.1, c.drop-trial.array_long, ap length (returns-clause-same c))) (λ r lt. c.requires.shown r (omega (arith, lt, p.rails_counted.1))) c.requires.movable c.requires.changes c.requires.out c.lowest_bad_on.result c.is_none.result c.is_none.ensures
    (subst (λ (b : Bounds). MatchOption c.lowest_bad_on.result (AllSafeOn (model_of p) c.args.rail (set c.args.spans.now c.args.rail b)) (λ bad. LowestBadOn (model_of p) c.args.rail (set c.args.spans.now c.args.rail b) bad.unit bad.values)) c.way.ensures c.lowest_bad_on.ensures)

use Rattle.std.proofs.Common.{◌≡◌, ◌<◌, rules, tests, arith, ⊎_elim}
use Rattle.std.proofs.lemmas.Iterator.{first_from_Range}
use Rattle.platform.proofs.Checking.{match_weaker}
use Rattle.ordering.specs.Filling.{mixes, units_of, IsLast}
use Rattle.ordering.proofs.Reading.{last_of}
use Rattle.ordering.proofs.search.Search.last.Goals as goal

pub returns : goal.returns
returns c =
    let x = mixes c.args.self.now.change in
    let units = units_of c.args.self.now.change in
    let t = c.args.table.now in
    match_weaker c.find.result _ (c.args.set ≡ 0) _ (λ r. (r < x.rails) × IsLast units x t c.args.set r)
    (λ none. ⊎_elim (λ e. e) (λ w. absurd (none w.0 (omega arith) (omega (arith, w.2.next.changes.0, c.rails.ensures)) (w.1, w.2))) (last_of units x t c.requires.exact (c.requires.exact.sound c.args.set c.requires.set c.requires.one)))
    (λ r first. (omega (arith, first.1, c.rails.ensures), first.2))
    (first_from_Range _ _ _ c.find.result (IsLast units x t c.args.set) (λ r. IsLast units x t c.args.set r → ⊥) c.find.ensures.ran (λ r q k. search (rules, tests)) (λ r q k. search (rules, tests)))

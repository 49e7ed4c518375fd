use Rattle.std.proofs.Common.{◌≡◌, List, sym, subst, ◌∙◌, arith}
use Rattle.platform.specs.declared.parts.Bounds.{Bounds}
use Rattle.histories.specs.Spans.{SpansOf}
use Rattle.ordering.specs.Filling.{mixes, units_of, standing}
use Rattle.ordering.proofs.Filling.{fill_step, fill_next, tried_one, tried_later}
use Rattle.ordering.proofs.search.Search.go_on.Goals as goal

pub loop-rail-preserved : goal.loop-rail-preserved
loop-rail-preserved c =
    let x = mixes c.args.self.now.change in
    let units = units_of c.args.self.now.change in
    let set = c.args.set in
    let rail = c.loop-rail.rail in
    let table = c.loop-rail.table in
    let new = c.try_rail.new.table in
    let tried = c.try_rail.ensures.tried in (
      subst (λ (spans : List Bounds). SpansOf 24 (standing x set) spans) (sym c.try_rail.ensures.same) c.loop-rail.invariant.0,
      tried_one units x set rail table new tried c.loop-rail.invariant.1,
      fill_step units x table set rail c.loop-rail.invariant.2 c.requires.set c.loop-rail.invariant.1 new tried,
      λ i l. tried_later units x set rail table new c.requires.set tried i l ∙ c.loop-rail.invariant.3 i l,
    )

pub returns-clause-filled : goal.returns-clause-filled
returns-clause-filled c =
    let x = mixes c.args.self.now.change in
    let end : c.loop-rail.rail ≡ x.rails = omega (arith, c.loop-rail-test.false, c.loop-rail.auto.rail-end, c.rails-rail-end.ensures) in
    fill_next (units_of c.args.self.now.change) x c.loop-rail.table c.args.set (rw end at c.loop-rail.invariant.2)

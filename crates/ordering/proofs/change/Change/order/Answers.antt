use Rattle.std.proofs.Common.{ℕ, ◌-◌, ◌^◌, get_or, ap, ◌∙◌, arith}
use Rattle.platform.specs.Making.{model_of}
use Rattle.ordering.specs.Sets.{count, place}
use Rattle.ordering.specs.Filling.{mixes, units_of}
use Rattle.ordering.proofs.Filling.{exact_from_filled, finished_from_filled}
use Rattle.ordering.proofs.Ways.{none_from_full}
use Rattle.ordering.proofs.Trying.{sound_of, rest_safe}
use Rattle.ordering.specs.Answers.{Ready}
use Rattle.ordering.proofs.change.Change.order.Goals as goal
use Rattle.ordering.proofs.change.Change.order.Goals.{After-fill}

-- what is asked of the mixes and the table
ready : (c : After-fill) → Ready (model_of c.args.self.now.platform.now) c.args.self.now.first.now.values c.args.self.now.last.now.values c.args.table.now
ready c = record {
  first_rests = c.in_default.ensures;
  last_rests = c.in_default-lowest_unrested.ensures;
  few = omega (arith, c.place-changed.ensures, c.if-changed-gt-MOST.false, ap (place (mixes c.args.self.now)) c.rails.ensures);
  long = omega (arith, c.if-table-size.false, c.size.ensures);
}

pub returns-then-table-size-ne1 : goal.returns-then-table-size-ne1
returns-then-table-size-ne1 c =
    let s = c.args.self.now in
    let p = s.platform.now in
    let x = mixes s in
    let t = c.fill.new.table in
    let calm = rest_safe (model_of p) (sound_of p) s.first.now.values c.in_default.ensures in (
      ready (goal.at.returns-then-table-size-ne1 c).After-fill,
      (
        finished_from_filled (units_of s) x calm c.args.table.now t c.fill.ensures.filled c.fill.ensures.later,
        none_from_full (units_of s) x calm (λ w. c.if-table-size-ne1.true (ap (λ (n : ℕ). get_or t (n - 1) 0) c.size-2.ensures ∙ (exact_from_filled (units_of s) x t c.fill.ensures.filled).whole (2 ^ count x - 1) w)),
      ),
    )

pub read_back-requires-clause-exact : goal.read_back-requires-clause-exact
read_back-requires-clause-exact c =
    let s = c.args.self.now in
    exact_from_filled (units_of s) (mixes s) c.fill.new.table c.fill.ensures.filled

pub returns : goal.returns
returns c =
    let s = c.args.self.now in
    let p = s.platform.now in
    let x = mixes s in
    let t = c.fill.new.table in
    let calm = rest_safe (model_of p) (sound_of p) s.first.now.values c.in_default.ensures in (
      ready (goal.at.returns c).After-fill,
      (
        finished_from_filled (units_of s) x calm c.args.table.now t c.fill.ensures.filled c.fill.ensures.later,
        c.read_back.ensures,
      ),
    )

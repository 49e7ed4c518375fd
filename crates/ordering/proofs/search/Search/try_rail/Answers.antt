use Rattle.std.proofs.Common.{ℕ, ◌+◌, ◌^◌, ◌<◌, sym, subst, ◌∙◌, ⊎_elim, arith, pow_mono}
use Rattle.std.proofs.lemmas.Bool.{false≢true}
use Rattle.ordering.specs.Sets.{count, place}
use Rattle.ordering.specs.Filling.{mixes}
use Rattle.ordering.proofs.Bits.{bit_cases}
use Rattle.ordering.proofs.Ranks.{with_below}
use Rattle.ordering.proofs.search.Search.try_rail.Goals as goal
use Rattle.ordering.proofs.search.Search.try_rail.Goals.{After-alone}

-- the set with the rail is one of the table's
below : (c : After-alone) → c.args.set + c.alone.result < 2 ^ count (mixes c.args.self.now.change)
below c =
    subst (λ (p : ℕ). c.args.set + p < 2 ^ count (mixes c.args.self.now.change)) (sym c.alone.ensures)
    (with_below (mixes c.args.self.now.change) c.args.set c.args.rail (c.changes.ensures.0 c.if-not-changes.false) c.requires.set
    (⊎_elim (λ none. none) (λ one. absurd (false≢true (sym c.if-has.false ∙ c.has.ensures.1 one))) (bit_cases c.args.set (place (mixes c.args.self.now.change) c.args.rail))))

pub overflow_add-with : goal.overflow_add-with
overflow_add-with c = omega (arith, below (goal.at.overflow_add-with c).After-alone, pow_mono c.args.self.now.few, c.args.self.now.counted)

pub bounds-table-with : goal.bounds-table-with
bounds-table-with c = omega (arith, below (goal.at.bounds-table-with c).After-alone, c.requires.table)

pub bounds-table-with-then-follows : goal.bounds-table-with-then-follows
bounds-table-with-then-follows c = omega (arith, below (goal.at.bounds-table-with-then-follows c).After-alone, c.requires.table)

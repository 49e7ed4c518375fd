use Rattle.ordering.specs.Filling.{mixes, units_of, Filled, Later}
use Rattle.ordering.proofs.search.Search.sweep.Given as goal

abbrev pub invariant-loop-set : goal.invariant-loop-set
invariant-loop-set l =
    Filled (units_of l.self.change) (mixes l.self.change) l.table l.set 0 × Later (mixes l.self.change) l.initial.table l.table

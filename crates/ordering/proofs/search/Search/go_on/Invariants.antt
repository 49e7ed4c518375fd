use Rattle.std.proofs.Common.{◌≡◌, get_or}
use Rattle.histories.specs.Spans.{SpansOf}
use Rattle.ordering.specs.Filling.{mixes, units_of, standing, Filled, Later}
use Rattle.ordering.proofs.search.Search.go_on.Given as goal

abbrev pub invariant-loop-rail : goal.invariant-loop-rail
invariant-loop-rail l =
    SpansOf 24 (standing (mixes l.self.change) l.set) l.spans
    × (get_or l.table l.set 0 ≡ 1)
    × Filled (units_of l.self.change) (mixes l.self.change) l.table l.set l.rail
    × Later (mixes l.self.change) l.initial.table l.table

use Rattle.std.proofs.Common.{◌≡◌, length}
use Rattle.histories.specs.Spans.{SpansOf}
use Rattle.ordering.specs.Filling.{mixes, standing}
use Rattle.ordering.proofs.search.Search.stand.Given as goal

abbrev pub invariant-loop-rail : goal.invariant-loop-rail
invariant-loop-rail l = (length l.span-items ≡ 24) × SpansOf l.rail (standing (mixes l.self.change) l.set) l.span-items

use Rattle.std.proofs.Common.{◌≡◌, ◌-◌, ◌^◌, ◌<◌, ◌≤◌, length, get_or}
use Rattle.std.specs.Int.Count.{ones}
use Rattle.ordering.specs.Sets.{count}
use Rattle.ordering.specs.Filling.{mixes, units_of}
use Rattle.ordering.proofs.Reading.{Rest, tail}
use Rattle.ordering.proofs.search.Search.read_back.Given as goal

abbrev pub invariant-loop-rail : goal.invariant-loop-rail
invariant-loop-rail l =
    (length l.rails ≡ 16)
    × (l.set < 2 ^ count (mixes l.self.change))
    × (get_or l.table l.set 0 ≡ 1)
    × (ones l.set ≡ l.left)
    × (l.left ≤ l.self.changed)
    × Rest (units_of l.self.change) (mixes l.self.change) l.set (tail l.rails (l.self.changed - l.left) l.left)

abbrev pub decreases-loop-rail : goal.decreases-loop-rail
decreases-loop-rail l = l.set

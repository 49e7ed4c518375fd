use Rattle.std.proofs.Common.{◌≡◌, ℕ, ◌<◌, length}
use Rattle.boards.specs.Benches.{row}
use Rattle.boards.proofs.Tables.{Rested}
use Rattle.boards.proofs.bench.Bench.rest.Given as goal

abbrev pub invariant-loop-i : goal.invariant-loop-i
invariant-loop-i g l =
    let rail = g.R.Rail in
    (goal.iterator-loop-i g).can_next l.i-iterator
    × (goal.iterator-loop-i g).is_finite l.i-iterator
    × (l.self.count ≡ l.initial.self.count)
    × ((k : ℕ) → k < length l.yielded → Rested rail.unset rail.suits rail.CEILING rail.rests l.settings l.first.values k (row rail.blank l.self k))

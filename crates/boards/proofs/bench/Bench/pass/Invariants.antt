use Rattle.std.proofs.Common.{◌≡◌, ◌≢◌, ℕ, ◌<◌, ◌≤◌, length, get_or}
use Rattle.boards.specs.Rails.{RailPassed}
use Rattle.boards.proofs.bench.Bench.pass.Given as goal

abbrev pub invariant-loop-i : goal.invariant-loop-i
invariant-loop-i g l =
    let rail = g.R.Rail in
    let was = λ (k : ℕ). get_or l.initial.rail-items k rail.blank in
    let is = λ (k : ℕ). get_or l.rail-items k rail.blank in
    (length l.rail-items ≡ length l.initial.rail-items)
    × ((k : ℕ) → k < l.i → k ≢ l.at → rail.passed (was k) (is k) × RailPassed (rail.meaning (was k)) (rail.meaning (is k)))
    × ((k : ℕ) → l.i ≤ k → is k ≡ was k)

use Rattle.std.proofs.Common.{◌≡◌, ℕ, ◌-◌, ◌<◌, get_or, Decides}
use Rattle.text.specs.Written.{Gap}
use Rattle.text.proofs.parts.Given as goal

abbrev pub invariant-loop-i : goal.invariant-loop-i
invariant-loop-i l = ((k : ℕ) → k < l.i → Gap l.bytes k → ⊥) × Decides l.fresh (0 < l.i → get_or l.bytes (l.i - 1) 0 ≡ 10)

-- What a script leaves each rail at, and the rails of a run at its end. Assumes nothing.
use Rattle.std.proofs.Common.{◌≡◌, ℕ, ◌<◌, List, length, drop, sym, ap, ◌∙◌, arith, length-drop}
use Rattle.platform.specs.Units.{Device}
use Rattle.boards.specs.Meaning.{Meaning}
use Rattle.histories.specs.declared.run.Direction.{Direction}
use Rattle.histories.specs.declared.run.Direction.TheVariants.{Forward, Backward}
use Rattle.histories.specs.Rails.{end_of}
use Rattle.openings.specs.Plans.{Plan, rails_at, steps_left, end_mix}
use Rattle.histories.proofs.Ends.{end_last, length_none}
use Rattle.openings.proofs.Opening.{Ground}
use Rattle.openings.proofs.Kept.{Kept, ready}

-- with no step left every rail is at the end's value
pub at_end : {units : List Device} {q : Plan} → Ground units q → (k : ℕ) (d : Direction) (b : Meaning) → Kept q k d b → steps_left q k d ≡ 0 → (i : ℕ) → i < q.rails → b.value i ≡ end_mix q d i
at_end {q = q} o k Forward b c z i h =
    let last : k ≡ length q.script = omega (arith, c.place, length-drop k q.script) in
    let rest : _ = ready o k c.place (length_none (drop k q.script) z) i h in
    let was : (b.value i ≡ rest.0) × (b.target i ≡ rest.0) = rw rest.1 at (c.rail i h) in
    was.0 ∙ sym (ap end_of rest.1) ∙ ap (λ j. end_of (rails_at q j i)) last ∙ end_last q.first q.script i
at_end {q = q} o k Backward b c z i h = (rw z at (c.rail i h)).0

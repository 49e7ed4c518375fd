-- Why it is enough to look at the units on the one rail whose span has changed. Assumes nothing.
use Rattle.std.specs.Prelude.{◌≡◌, ℕ, List, ◌≢◌}
use Rattle.platform.specs.declared.parts.Bounds.{Bounds}
use Rattle.platform.specs.Units.{bounds_at}
use Rattle.platform.specs.Rules.{Sound}
use Rattle.platform.specs.Describing.{Model}
use Rattle.spans.specs.Safety.{Allowed}
use Rattle.spans.specs.Judging.{AllSafe, AllSafeOn}

-- the spans are the same on every rail but r
abbrev pub OnlyChanged : ℕ → List Bounds → List Bounds → Type 0
OnlyChanged r old new = (q : ℕ) → (q ≢ r) → bounds_at new q ≡ bounds_at old q

-- where spans that allow some mix are safe for every unit and only rail r's span changes,
-- the new ones are safe for every unit as soon as they are for the units on rail r
abbrev pub OneRail : Type 0
OneRail =
    (m : Model) → Sound m.rails m.units
    → (old new : List Bounds) (r : ℕ) → OnlyChanged r old new
    → (mix : List ℕ) → Allowed m.rails old mix
    → AllSafe m old → AllSafeOn m r new → AllSafe m new

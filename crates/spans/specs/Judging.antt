-- What each answer says of a platform's units. Assumes nothing.
use Rattle.std.specs.Prelude.{◌≡◌, ℕ, ◌<◌, ◌≤◌, List, length, Some, None, Option, Ok, Err, Result}
use Rattle.platform.specs.declared.parts.Bounds.{Bounds}
use Rattle.platform.specs.Units.{Device, unit_at, rail_at}
use Rattle.platform.specs.Describing.{Model}
use Rattle.spans.specs.declared.judge.NoUnit.{NoUnit}
use Rattle.spans.specs.Safety.{SafeFor, BadValues}

-- the spans are safe for unit k
abbrev pub SafeAt : Model → List Bounds → ℕ → Type 0
SafeAt m spans k = SafeFor m.rails spans (unit_at m.units k)

-- the spans are not safe for unit k, and these are its first bad values
abbrev pub BadAt : Model → List Bounds → ℕ → List ℕ → Type 0
BadAt m spans k values = BadValues m.rails spans (unit_at m.units k) values

-- what an answer says of unit k
abbrev pub Judges : Model → List Bounds → ℕ → Result (Option (List ℕ)) NoUnit → Type 0
Judges m spans k (Ok None) = (k < length m.units) × SafeAt m spans k
Judges m spans k (Ok (Some values)) = (k < length m.units) × BadAt m spans k values
Judges m spans k (Err e) = length m.units ≤ k

-- the spans are safe for every unit
abbrev pub AllSafe : Model → List Bounds → Type 0
AllSafe m spans = (k : ℕ) → k < length m.units → SafeAt m spans k

-- unit k is the lowest for which the spans are not safe, and these are its first bad values
pub record LowestBad (m : Model) (spans : List Bounds) (k : ℕ) (values : List ℕ) : Type 0 where
  pub there : k < length m.units
  pub bad : BadAt m spans k values
  pub lowest : (j : ℕ) → j < k → SafeAt m spans j

-- the unit has a pin on rail r
abbrev pub Touches : ℕ → Device → Type 0
Touches r u = (p : ℕ) × ((p < length u.pins) × (rail_at u p ≡ r))

-- unit k has a pin on rail r
abbrev pub OnRail : Model → ℕ → ℕ → Type 0
OnRail m r k = Touches r (unit_at m.units k)

-- the spans are safe for every unit on rail r
abbrev pub AllSafeOn : Model → ℕ → List Bounds → Type 0
AllSafeOn m r spans = (k : ℕ) → k < length m.units → OnRail m r k → SafeAt m spans k

-- unit k is the lowest on rail r for which the spans are not safe, and these are its first bad values
pub record LowestBadOn (m : Model) (r : ℕ) (spans : List Bounds) (k : ℕ) (values : List ℕ) : Type 0 where
  pub there : k < length m.units
  pub touches : OnRail m r k
  pub bad : BadAt m spans k values
  pub lowest : (j : ℕ) → j < k → OnRail m r j → SafeAt m spans j

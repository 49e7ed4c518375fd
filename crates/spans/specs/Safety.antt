-- What spans allow, when they are safe for a unit, and which values are the first bad ones. Assumes nothing.
use Rattle.std.specs.Prelude.{◌≡◌, ℕ, ◌<◌, ◌≤◌, List, length, slice_index}
use Rattle.platform.specs.declared.parts.Bounds.{Bounds}
use Rattle.platform.specs.Units.{Device, rail_at, bounds_at, value_of, Within, InMode}

-- the mix lies inside the spans: each of the rails has a value within its span
abbrev pub Allowed : ℕ → List Bounds → List ℕ → Type 0
Allowed rails spans mix = (r : ℕ) → r < rails → Within (bounds_at spans r) (value_of mix r)

-- the mix puts the unit in some mode, rest or pass
abbrev pub InSomeMode : Device → List ℕ → Type 0
InSomeMode u mix = (m : ℕ) × ((m < length u.modes) × InMode u m mix)

-- the spans are safe for the unit: whichever mix they allow, the unit is in some mode
abbrev pub SafeFor : ℕ → List Bounds → Device → Type 0
SafeFor rails spans u = (mix : List ℕ) → Allowed rails spans mix → InSomeMode u mix

-- the values that a mix gives the unit's pins
abbrev pub pin_values : Device → List ℕ → ℕ → ℕ
pin_values u mix p = value_of mix (rail_at u p)

-- the same values on the first n pins
abbrev pub Alike : ℕ → (ℕ → ℕ) → (ℕ → ℕ) → Type 0
Alike n vs ws = (p : ℕ) → p < n → vs p ≡ ws p

-- vs comes before ws: it is less on the first of n pins where they differ
pub record Before (n : ℕ) (vs ws : ℕ → ℕ) : Type 0 where
  pub pin : ℕ
  pub there : pin < n
  pub alike : Alike pin vs ws
  pub less : vs pin < ws pin

-- the spans allow the mix, it puts the unit in no mode, and each allowed mix before it puts the unit in some mode
pub record IsFirstBad (rails : ℕ) (spans : List Bounds) (u : Device) (mix : List ℕ) : Type 0 where
  pub allowed : Allowed rails spans mix
  pub bad : InSomeMode u mix → ⊥
  pub first : (other : List ℕ) → Allowed rails spans other → Before (length u.pins) (pin_values u other) (pin_values u mix) → InSomeMode u other

-- the values are those of the unit's pins at a first bad mix, and 0 past its last pin
pub record BadValues (rails : ℕ) (spans : List Bounds) (u : Device) (values : List ℕ) : Type 0 where
  pub mix : List ℕ
  pub first : IsFirstBad rails spans u mix
  pub own : Alike (length u.pins) (λ p. slice_index values p) (pin_values u mix)
  pub past : (p : ℕ) → length u.pins ≤ p → slice_index values p ≡ 0

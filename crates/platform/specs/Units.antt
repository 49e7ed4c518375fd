-- Units, their pins and modes, and what a mix puts them in. Assumes nothing.
use Rattle.std.specs.Prelude.{◌≡◌, ℕ, ◌<◌, ◌≤◌, List, [], length, slice_index, slice_index_or}
use Rattle.sheets.specs.declared.rows.Kind.{Kind}
use Rattle.sheets.specs.declared.rows.Way.{Way}
use Rattle.platform.specs.declared.parts.Bounds.{Bounds}
use Rattle.platform.specs.declared.parts.Pin.{Pin}
use Rattle.platform.specs.declared.parts.Mode.{Mode}

-- a unit by what it is: its pins and its modes
pub record Device : Type 0 where
  pub pins : List Pin
  pub modes : List Mode

abbrev pub no_device : Device
no_device = record { pins = []; modes = [] }

abbrev pub unit_at : List Device → ℕ → Device
unit_at units k = slice_index_or units k no_device

abbrev pub no_pin : Pin
no_pin = record { rail = 0; way = Way.Loads }

abbrev pub pin_at : Device → ℕ → Pin
pin_at u p = slice_index_or u.pins p no_pin

-- the rail of pin p
abbrev pub rail_at : Device → ℕ → ℕ
rail_at u p = (pin_at u p).rail

abbrev pub no_bounds : Bounds
no_bounds = record { low = 0; high = 0 }

abbrev pub bounds_at : List Bounds → ℕ → Bounds
bounds_at bs i = slice_index_or bs i no_bounds

abbrev pub no_mode : Mode
no_mode = record { kind = Kind.Pass; draw = 0; heat = 0; bounds = [] }

abbrev pub mode_at : Device → ℕ → Mode
mode_at u m = slice_index_or u.modes m no_mode

-- the bounds of pin p in mode m
abbrev pub pin_bounds : Device → ℕ → ℕ → Bounds
pin_bounds u m p = bounds_at (mode_at u m).bounds p

-- the value lies within the bounds, both ends included
abbrev pub Within : Bounds → ℕ → Type 0
Within b v = (b.low ≤ v) × (v ≤ b.high)

-- m is a rest mode of the unit
abbrev pub Rests : Device → ℕ → Type 0
Rests u m = (m < length u.modes) × ((mode_at u m).kind ≡ Kind.Rest)

-- the value that a mix gives rail r
abbrev pub value_of : List ℕ → ℕ → ℕ
value_of mix r = slice_index mix r

-- the mix puts the unit in mode m: pin by pin, the rail's value is within the mode's bounds for that pin
abbrev pub InMode : Device → ℕ → List ℕ → Type 0
InMode u m mix = (p : ℕ) → p < length u.pins → Within (pin_bounds u m p) (value_of mix (rail_at u p))

-- the mix puts the unit in some rest mode
abbrev pub AtRest : Device → List ℕ → Type 0
AtRest u mix = (m : ℕ) × (Rests u m × InMode u m mix)

-- the mix rests: it puts every unit in a rest mode
abbrev pub Resting : List Device → List ℕ → Type 0
Resting units mix = (k : ℕ) → k < length units → AtRest (unit_at units k) mix

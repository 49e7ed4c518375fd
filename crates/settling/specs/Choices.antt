-- Choices of modes, the windows that they leave, when they fit, and when none does. Assumes nothing.
use Rattle.std.specs.Prelude.{◌≡◌, ℕ, ◌<◌, ◌≤◌, List, length, vec_items, slice_index, slice_index_or}
use Rattle.sheets.specs.declared.rows.Demand.{Demand}
use Rattle.platform.specs.declared.platform.Platform.{Platform}
use Rattle.platform.specs.Units.{Device, unit_at, rail_at, pin_bounds, value_of, Within, Rests, Resting}
use Rattle.platform.specs.Devices.{devices}
use Rattle.platform.specs.Rules.{Sound}

-- the units of a platform
abbrev pub units_of : Platform → List Device
units_of platform = devices (vec_items platform.units)

-- these are the units of some platform
abbrev pub OfPlatform : List Device → Type 0
OfPlatform units = (rails : ℕ) × Sound rails units

abbrev pub no_demand : Demand
no_demand = record { rail = 0; low = 0; high = 0 }

abbrev pub demand_at : List Demand → ℕ → Demand
demand_at demands i = slice_index_or demands i no_demand

-- each demand is on one of the first so many rails
abbrev pub Known : ℕ → List Demand → Type 0
Known rails demands = (i : ℕ) → i < length demands → (demand_at demands i).rail < rails

-- v is at most 65,535, and lies within each of the first n demands that are on rail r
abbrev pub DemandedTo : ℕ → List Demand → ℕ → ℕ → Type 0
DemandedTo n demands r v = (v ≤ 65535) × ((i : ℕ) → i < n → (demand_at demands i).rail ≡ r → ((demand_at demands i).low ≤ v) × (v ≤ (demand_at demands i).high))

abbrev pub Demanded : List Demand → ℕ → ℕ → Type 0
Demanded demands r v = DemandedTo (length demands) demands r v

-- v lies within the bounds that the first n pins of the unit have in mode m, as far as they are on rail r
abbrev pub AllowsTo : ℕ → Device → ℕ → ℕ → ℕ → Type 0
AllowsTo n u m r v = (p : ℕ) → p < n → rail_at u p ≡ r → Within (pin_bounds u m p) v

abbrev pub Allows : Device → ℕ → ℕ → ℕ → Type 0
Allows u m r v = AllowsTo (length u.pins) u m r v

-- the mode that a choice takes for unit k
abbrev pub mode_of : List ℕ → ℕ → ℕ
mode_of choice k = slice_index choice k

-- v lies in the window that rail r's demands and the modes of the first n units leave it
abbrev pub InWindowTo : ℕ → List Device → List Demand → List ℕ → ℕ → ℕ → Type 0
InWindowTo n units demands choice r v = Demanded demands r v × ((k : ℕ) → k < n → Allows (unit_at units k) (mode_of choice k) r v)

abbrev pub InWindow : List Device → List Demand → List ℕ → ℕ → ℕ → Type 0
InWindow units demands choice r v = InWindowTo (length units) units demands choice r v

-- the choice takes a rest mode for each unit and leaves no window empty
pub record Fits (units : List Device) (demands : List Demand) (choice : List ℕ) : Type 0 where
  pub rest : (k : ℕ) → k < length units → Rests (unit_at units k) (mode_of choice k)
  pub meet : (r : ℕ) → r < 24 → (v : ℕ) × InWindow units demands choice r v

-- two choices take the same modes for the first n units
abbrev pub Same : ℕ → List ℕ → List ℕ → Type 0
Same n a b = (k : ℕ) → k < n → mode_of a k ≡ mode_of b k

-- a comes before b: it takes the lower mode at the first of n units where they differ
abbrev pub Before : ℕ → List ℕ → List ℕ → Type 0
Before n a b = (k : ℕ) × ((k < n) × (Same k a b × (mode_of a k < mode_of b k)))

-- the mix has each rail where its demands want it
abbrev pub Meets : List Demand → List ℕ → Type 0
Meets demands mix = (r : ℕ) → r < 24 → Demanded demands r (value_of mix r)

-- no mix meets the demands with every unit in a rest mode
abbrev pub Hopeless : List Device → List Demand → Type 0
Hopeless units demands = (mix : List ℕ) → Meets demands mix → Resting units mix → ⊥

-- on a platform no choice fits exactly where there is no hope
abbrev pub HopelessExactly : Type 0
HopelessExactly = (rails : ℕ) (units : List Device) (demands : List Demand) → Sound rails units → (((choice : List ℕ) → Fits units demands choice → ⊥) → Hopeless units demands) × (Hopeless units demands → (choice : List ℕ) → Fits units demands choice → ⊥)

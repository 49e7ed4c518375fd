-- Windows as bounds: what they hold, and what a unit in a mode leaves of them. Assumes nothing.
use Rattle.std.specs.Prelude.{ℕ, ◌<◌, ◌≤◌, min, max, List, length}
use Rattle.platform.specs.declared.parts.Bounds.{Bounds}
use Rattle.platform.specs.Units.{Device, bounds_at, Within}
use Rattle.settling.specs.Choices.{AllowsTo}

-- what two bounds have in common
abbrev pub shared : Bounds → Bounds → Bounds
shared a b = record { low = max a.low b.low; high = min a.high b.high }

-- each of the 24 windows holds exactly the values v with P r v
abbrev pub Hold : (ℕ → ℕ → Type 0) → List Bounds → Type 0
Hold P windows = (r : ℕ) → r < 24 → (v : ℕ) → (Within (bounds_at windows r) v → P r v) × (P r v → Within (bounds_at windows r) v)

-- no window is empty
abbrev pub Open : List Bounds → Type 0
Open windows = (r : ℕ) → r < 24 → (bounds_at windows r).low ≤ (bounds_at windows r).high

-- v lies in the window of rail r still once the first n pins of the unit are in mode m
abbrev pub StillTo : ℕ → Device → ℕ → List Bounds → ℕ → ℕ → Type 0
StillTo n u m windows r v = Within (bounds_at windows r) v × AllowsTo n u m r v

abbrev pub Still : Device → ℕ → List Bounds → ℕ → ℕ → Type 0
Still u m windows = StillTo (length u.pins) u m windows

-- The platform that the rows of the sheets describe. Assumes nothing.
use Rattle.std.specs.Prelude.{ℕ, ◌+◌, max, Bool, ◌&&◌, List, [], ◌∷◌, map, filter, ◌==◌}
use Rattle.std.specs.List.{range_with_len}
use Rattle.sheets.specs.declared.rows.PinRow.{PinRow}
use Rattle.sheets.specs.declared.rows.ModeRow.{ModeRow}
use Rattle.sheets.specs.declared.rows.BoundRow.{BoundRow}
use Rattle.sheets.specs.Turns.{unit_count, pins_of}
use Rattle.sheets.specs.Reading.{Rows}
use Rattle.platform.specs.declared.parts.Bounds.{Bounds}
use Rattle.platform.specs.declared.parts.Pin.{Pin}
use Rattle.platform.specs.declared.parts.Mode.{Mode}
use Rattle.platform.specs.Units.{Device, bounds_at}

-- a platform by what it is: how many rails, and its units
pub record Model : Type 0 where
  pub rails : ℕ
  pub units : List Device

abbrev pub pin_from : PinRow → Pin
pin_from r = record { rail = r.rail; way = r.way }

abbrev pub bounds_from : BoundRow → Bounds
bounds_from r = record { low = r.low; high = r.high }

abbrev pub mode_in_unit : ℕ → ModeRow → Bool
mode_in_unit k r = r.unit == k

-- the modes of unit k, in the order of their lines
abbrev pub modes_of : ℕ → List ModeRow → List ModeRow
modes_of k rows = filter (mode_in_unit k) rows

abbrev pub bound_in_mode : ℕ → ℕ → BoundRow → Bool
bound_in_mode k m r = r.unit == k && r.mode == m

-- the bounds of mode m of unit k, one for each pin, in the order of their lines
abbrev pub bounds_of : ℕ → ℕ → List BoundRow → List Bounds
bounds_of k m rows = map bounds_from (filter (bound_in_mode k m) rows)

-- four bounds, of which only as many as there are pins are read
abbrev pub four : List Bounds → List Bounds
four bs = bounds_at bs 0 ∷ bounds_at bs 1 ∷ bounds_at bs 2 ∷ bounds_at bs 3 ∷ []

abbrev pub mode_from : List BoundRow → ModeRow → Mode
mode_from bounds m = record { kind = m.kind; draw = m.draw; heat = m.heat; bounds = four (bounds_of m.unit m.mode bounds) }

-- unit k: its pins and its modes
abbrev pub unit_from : Rows → ℕ → Device
unit_from rows k = record { pins = map pin_from (pins_of k rows.pins); modes = map (mode_from rows.bounds) (modes_of k rows.modes) }

-- the highest rail that a pin is on, and one more
abbrev pub rail_count : List PinRow → ℕ
rail_count [] = 0
rail_count (r ∷ rs) = max (r.rail + 1) (rail_count rs)

abbrev pub described : Rows → Model
described rows = record { rails = rail_count rows.pins; units = map (unit_from rows) (range_with_len 0 (unit_count rows.pins)) }

-- What the lines of the sheets say of the platform that they describe. Assumes nothing.
use Rattle.std.specs.Prelude.{◌≡◌, ℕ, ◌+◌, ◌<◌, List, length}
use Rattle.std.specs.List.{ContainsAt as Has, AllByRecursion}
use Rattle.sheets.specs.declared.rows.PinRow.{PinRow}
use Rattle.sheets.specs.declared.rows.ModeRow.{ModeRow}
use Rattle.sheets.specs.declared.rows.BoundRow.{BoundRow}
use Rattle.sheets.specs.Reading.{Rows, Kept}
use Rattle.platform.specs.Units.{Device, unit_at, pin_at, mode_at, pin_bounds}
use Rattle.platform.specs.Describing.{Model, pin_from, bounds_from, described}

-- how many pins unit k has
abbrev pub pin_count : List Device → ℕ → ℕ
pin_count units k = length (unit_at units k).pins

-- how many modes unit k has
abbrev pub mode_count : List Device → ℕ → ℕ
mode_count units k = length (unit_at units k).modes

-- there is such a pin, and it is as the line says
pub record PinHolds (units : List Device) (r : PinRow) : Type 0 where
  pub unit : r.unit < length units
  pub pin : r.pin < pin_count units r.unit
  pub same : pin_at (unit_at units r.unit) r.pin ≡ pin_from r

-- there is such a mode, and it is of the kind, the draw and the heat class that the line says
pub record ModeHolds (units : List Device) (r : ModeRow) : Type 0 where
  pub unit : r.unit < length units
  pub mode : r.mode < mode_count units r.unit
  pub kind : (mode_at (unit_at units r.unit) r.mode).kind ≡ r.kind
  pub draw : (mode_at (unit_at units r.unit) r.mode).draw ≡ r.draw
  pub heat : (mode_at (unit_at units r.unit) r.mode).heat ≡ r.heat

-- there is such a pin and such a mode, and its bounds for the pin are as the line says
pub record BoundsHold (units : List Device) (r : BoundRow) : Type 0 where
  pub unit : r.unit < length units
  pub mode : r.mode < mode_count units r.unit
  pub pin : r.pin < pin_count units r.unit
  pub same : pin_bounds (unit_at units r.unit) r.mode r.pin ≡ bounds_from r

-- some line says what pin p of unit k is
pub record PinSaid (rows : Rows) (k p : ℕ) : Type 0 where
  pub row : PinRow
  pub there : Has rows.pins row
  pub unit : row.unit ≡ k
  pub pin : row.pin ≡ p

-- some line says what mode m of unit k is
pub record ModeSaid (rows : Rows) (k m : ℕ) : Type 0 where
  pub row : ModeRow
  pub there : Has rows.modes row
  pub unit : row.unit ≡ k
  pub mode : row.mode ≡ m

-- some line says the bounds of mode m of unit k for pin p
pub record BoundsSaid (rows : Rows) (k m p : ℕ) : Type 0 where
  pub row : BoundRow
  pub there : Has rows.bounds row
  pub unit : row.unit ≡ k
  pub mode : row.mode ≡ m
  pub pin : row.pin ≡ p

-- what each line says is so of the model, and what the model has is said by a line
pub record Holds (rows : Rows) (model : Model) : Type 0 where
  pub pins : AllByRecursion (PinHolds model.units) rows.pins
  pub modes : AllByRecursion (ModeHolds model.units) rows.modes
  pub bounds : AllByRecursion (BoundsHold model.units) rows.bounds
  -- each pin is on one of the rails
  pub rails : AllByRecursion (λ r. r.rail < model.rails) rows.pins
  -- and some pin is on the last of them
  pub rails_said : (r : PinRow) × Has rows.pins r × (r.rail + 1 ≡ model.rails)
  -- no unit is there without a line: its first pin has one
  pub units_said : (k : ℕ) → k < length model.units → PinSaid rows k 0
  pub pins_said : (k p : ℕ) → k < length model.units → p < pin_count model.units k → PinSaid rows k p
  pub modes_said : (k m : ℕ) → k < length model.units → m < mode_count model.units k → ModeSaid rows k m
  pub bounds_said : (k m p : ℕ) → k < length model.units → m < mode_count model.units k → p < pin_count model.units k → BoundsSaid rows k m p

-- the lines of rows that keep their rules hold of the platform that they describe
abbrev pub LinesHold : Type 0
LinesHold = (rows : Rows) → Kept rows.pins rows.modes rows.bounds rows.demands → Holds rows (described rows)

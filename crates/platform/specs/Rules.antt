-- The rules that every platform keeps. Assumes nothing.
use Rattle.std.specs.Prelude.{◌≡◌, ℕ, ◌<◌, ◌≤◌, Bool, true, false, ◌&&◌, List, length, ◌==◌, count_by, sum_by}
use Rattle.sheets.specs.declared.rows.Way.{Way}
use Rattle.sheets.specs.declared.rows.Way.TheVariants.{Drives, Loads}
use Rattle.platform.specs.declared.parts.Pin.{Pin}
use Rattle.platform.specs.Units.{Device, unit_at, rail_at, mode_at, pin_bounds}

abbrev pub is_driving : Way → Bool
is_driving Drives = true
is_driving Loads = false

-- whether a pin drives rail r
abbrev pub drives : ℕ → Pin → Bool
drives r p = is_driving p.way && p.rail == r

-- how many of the pins drive rail r
abbrev pub drivers_among : ℕ → List Pin → ℕ
drivers_among r pins = count_by (drives r) pins

abbrev pub drivers : ℕ → List Device → ℕ
drivers r units = sum_by (λ u. drivers_among r u.pins) units

-- of the first n pins none after p is on the rail of p
abbrev pub AloneTo : ℕ → Device → ℕ → Type 0
AloneTo n u p = (q : ℕ) → (p < q) × (q < n) × (rail_at u p ≡ rail_at u q) → ⊥

-- no two pins of the unit are on one rail
abbrev pub Apart : Device → Type 0
Apart u = (p : ℕ) → AloneTo (length u.pins) u p

-- P holds of each unit
abbrev pub Each : (Device → Type 0) → List Device → Type 0
Each P units = (k : ℕ) → k < length units → P (unit_at units k)

abbrev pub PinsCounted : Device → Type 0
PinsCounted u = (1 ≤ length u.pins) × (length u.pins ≤ 4)

abbrev pub ModesCounted : Device → Type 0
ModesCounted u = (1 ≤ length u.modes) × (length u.modes ≤ 6)

-- each pin is on one of the platform's rails
abbrev pub Wired : ℕ → Device → Type 0
Wired rails u = (p : ℕ) → p < length u.pins → rail_at u p < rails

-- each mode draws at most 1,000,000 mW
abbrev pub Mild : Device → Type 0
Mild u = (m : ℕ) → m < length u.modes → (mode_at u m).draw ≤ 1000000

-- each mode's heat class is at most 15
abbrev pub Cool : Device → Type 0
Cool u = (m : ℕ) → m < length u.modes → (mode_at u m).heat ≤ 15

-- no low is above its high
abbrev pub Level : Device → Type 0
Level u = (m p : ℕ) → (m < length u.modes) × (p < length u.pins) × ((pin_bounds u m p).high < (pin_bounds u m p).low) → ⊥

-- each rail has exactly one driving pin
abbrev pub Driven : ℕ → List Device → Type 0
Driven rails units = (r : ℕ) → r < rails → drivers r units ≡ 1

-- all the rules of a platform with so many rails and these units
pub record Sound (rails : ℕ) (units : List Device) : Type 0 where
  pub rails_counted : (1 ≤ rails) × (rails ≤ 24)
  pub units_counted : (1 ≤ length units) × (length units ≤ 24)
  pub pins_counted : Each PinsCounted units
  pub modes_counted : Each ModesCounted units
  pub wired : Each (Wired rails) units
  pub apart : Each Apart units
  pub mild : Each Mild units
  pub cool : Each Cool units
  pub level : Each Level units
  pub driven : Driven rails units

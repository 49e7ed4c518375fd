-- What making a platform comes to. Assumes nothing.
use Rattle.std.specs.Prelude.{◌≡◌, ℕ, ◌<◌, List, length, Ok, Err, vec_items, Result}
use Rattle.sheets.specs.Reading.{Rows}
use Rattle.faults.specs.declared.platform.PlatformFault.{PlatformFault}
use Rattle.faults.specs.declared.platform.PlatformFault.TheVariants.{Sheet, Twice, Driver, Memory}
use Rattle.platform.specs.declared.platform.Platform.{Platform}
use Rattle.platform.specs.Units.{Device, unit_at}
use Rattle.platform.specs.Devices.{devices}
use Rattle.platform.specs.Rules.{Apart, Each, drivers, Driven}
use Rattle.platform.specs.Describing.{Model, described}

abbrev pub model_of : Platform → Model
model_of p = record { rails = p.rails; units = devices (vec_items p.units) }

-- u is the lowest unit that has two pins on one rail
pub record LowestTwice (units : List Device) (u : ℕ) : Type 0 where
  pub there : u < length units
  pub twice : Apart (unit_at units u) → ⊥
  pub lowest : (k : ℕ) → k < u → Apart (unit_at units k)

-- r is the lowest rail that does not have exactly one driving pin
pub record LowestUndriven (rails : ℕ) (units : List Device) (r : ℕ) : Type 0 where
  pub there : r < rails
  pub undriven : drivers r units ≡ 1 → ⊥
  pub lowest : (s : ℕ) → s < r → drivers s units ≡ 1

-- the model keeps the two rules that the sheets alone do not keep
pub record JoinedWell (m : Model) : Type 0 where
  pub apart : Each Apart m.units
  pub driven : Driven m.rails m.units

-- what each answer says of the rows
abbrev pub Makes : Rows → Result Model PlatformFault → Type 0
Makes rows (Ok m) = (m ≡ described rows) × JoinedWell (described rows)
Makes rows (Err (Sheet e)) = ⊥
Makes rows (Err (Twice u)) = LowestTwice (described rows).units u
Makes rows (Err (Driver r)) = Each Apart (described rows).units × LowestUndriven (described rows).rails (described rows).units r
Makes rows (Err Memory) = ⊥

-- How the input is cut into the four sheets. Assumes nothing.
use Rattle.std.specs.Prelude.{ℕ, ◌<◌, ◌≤◌, List, length, Ok, Err, Result}
use Rattle.text.specs.Written.{Parts}
use Rattle.sheets.specs.Fours.{Four}
use Rattle.faults.specs.declared.listing.ListingFault.{ListingFault}
use Rattle.faults.specs.declared.listing.ListingFault.TheVariants.{Input, Parts as Few, Platform, Settle, Memory}

-- the first three empty lines of the input stand between the four sheets
pub record Cuts (input : List ℕ) (four : Four) : Type 0 where
  pub after_pins : List ℕ
  pub after_modes : List ℕ
  pub first : Parts input four.pins after_pins
  pub second : Parts after_pins four.modes after_modes
  pub third : Parts after_modes four.bounds four.demands

-- what each answer says of the input: too long, or fewer than three empty lines, or the four sheets
abbrev pub Cutting : List ℕ → Result Four ListingFault → Type 0
Cutting input (Ok four) = (length input ≤ 65535) × Cuts input four
Cutting input (Err Input) = 65535 < length input
Cutting input (Err Few) = (length input ≤ 65535) × ((four : Four) → Cuts input four → ⊥)
Cutting input (Err (Platform e)) = ⊥
Cutting input (Err (Settle e)) = ⊥
Cutting input (Err Memory) = ⊥

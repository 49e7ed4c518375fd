-- In which turn lines come. Assumes nothing.
use Rattle.std.specs.Prelude.{◌≡◌, ℕ, ◌+◌, ◌<◌, Bool, ◌⊎◌, List, [], ◌∷◌, map, length, filter, ◌==◌, slice_index_or}
use Rattle.std.specs.List.{flat_map}
use Rattle.sheets.specs.declared.rows.PinRow.{PinRow}
use Rattle.sheets.specs.declared.rows.ModeRow.{ModeRow}
use Rattle.sheets.specs.declared.rows.BoundRow.{BoundRow}
use Rattle.sheets.specs.declared.rows.Place.{Place}

-- number 0 of unit 0
pub record Begins (unit number : ℕ) : Type 0 where
  pub unit_0 : unit ≡ 0
  pub number_0 : number ≡ 0

-- the next number of the same unit, or number 0 of the next unit
abbrev pub Follows : ℕ → ℕ → ℕ → ℕ → Type 0
Follows unit number u n = ((unit ≡ u) × (number ≡ n + 1)) ⊎ ((unit ≡ u + 1) × (number ≡ 0))

-- how many units the pins have: the last one's unit and one more
abbrev pub unit_count : List PinRow → ℕ
unit_count [] = 0
unit_count (r ∷ []) = r.unit + 1
unit_count (r ∷ s ∷ rs) = unit_count (s ∷ rs)

abbrev pub in_unit : ℕ → PinRow → Bool
in_unit k r = r.unit == k

-- the pins of unit k, in the order of their lines
abbrev pub pins_of : ℕ → List PinRow → List PinRow
pins_of k rows = filter (in_unit k) rows

-- a mode's place at a pin of its unit
abbrev pub pin_place : ModeRow → PinRow → Place
pin_place m p = record { unit = m.unit; mode = m.mode; pin = p.pin }

-- the places of a mode: one for each pin of its unit
abbrev pub mode_places : List PinRow → ModeRow → List Place
mode_places pins m = map (pin_place m) (pins_of m.unit pins)

-- where bounds are due: at every pin of every mode, in order
abbrev pub places : List PinRow → List ModeRow → List Place
places pins modes = flat_map (mode_places pins) modes

abbrev pub place_of : BoundRow → Place
place_of b = record { unit = b.unit; mode = b.mode; pin = b.pin }

abbrev pub no_place : Place
no_place = record { unit = 0; mode = 0; pin = 0 }

-- the row stands at the place that is due after n rows
pub record Due (ps : List Place) (n : ℕ) (b : BoundRow) : Type 0 where
  pub left : n < length ps
  pub same : place_of b ≡ slice_index_or ps n no_place

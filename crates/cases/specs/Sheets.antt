-- The small board's sheets, row by row. Assumes nothing.
use Rattle.std.specs.Prelude.{ℕ, [], ◌∷◌}
use Rattle.sheets.specs.declared.rows.Kind.{Kind}
use Rattle.sheets.specs.declared.rows.Way.{Way}
use Rattle.sheets.specs.declared.rows.PinRow.{PinRow}
use Rattle.sheets.specs.declared.rows.ModeRow.{ModeRow}
use Rattle.sheets.specs.declared.rows.BoundRow.{BoundRow}
use Rattle.sheets.specs.Reading.{Rows}

abbrev pub pin_row : ℕ → ℕ → ℕ → Way → PinRow
pin_row unit pin rail way = record { unit = unit; pin = pin; rail = rail; way = way }

abbrev pub mode_row : ℕ → ℕ → Kind → ℕ → ℕ → ModeRow
mode_row unit number kind draw heat = record { unit = unit; mode = number; kind = kind; draw = draw; heat = heat }

abbrev pub bound_row : ℕ → ℕ → ℕ → ℕ → ℕ → BoundRow
bound_row unit number pin low high = record { unit = unit; mode = number; pin = pin; low = low; high = high }

abbrev pub small_rows : Rows
small_rows = record {
  pins = pin_row 0 0 0 Way.Drives ∷ pin_row 1 0 0 Way.Loads ∷ pin_row 1 1 1 Way.Drives ∷ pin_row 2 0 1 Way.Loads ∷ [];
  modes =
      mode_row 0 0 Kind.Rest 200 0 ∷ mode_row 0 1 Kind.Rest 3000 2 ∷ mode_row 0 2 Kind.Pass 0 0
      ∷ mode_row 1 0 Kind.Rest 10 0 ∷ mode_row 1 1 Kind.Rest 400 1 ∷ mode_row 1 2 Kind.Pass 0 0
      ∷ mode_row 2 0 Kind.Rest 0 0 ∷ mode_row 2 1 Kind.Rest 2500 3 ∷ mode_row 2 2 Kind.Pass 0 0 ∷ [];
  bounds =
      bound_row 0 0 0 0 0 ∷ bound_row 0 1 0 11400 12600 ∷ bound_row 0 2 0 0 12600
      ∷ bound_row 1 0 0 0 14000 ∷ bound_row 1 0 1 0 0 ∷ bound_row 1 1 0 5500 14000 ∷ bound_row 1 1 1 500 5250 ∷ bound_row 1 2 0 5500 14000 ∷ bound_row 1 2 1 0 5250
      ∷ bound_row 2 0 0 0 0 ∷ bound_row 2 1 0 1650 1950 ∷ bound_row 2 2 0 0 1950 ∷ [];
  demands = [];
}

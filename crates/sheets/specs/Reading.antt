-- What reading four sheets comes to. Assumes nothing.
use Rattle.std.specs.Prelude.{ℕ, List, Result}
use Rattle.answers.specs.Sequels.{Then, Answers}
use Rattle.faults.specs.declared.sheet.SheetFault.{SheetFault}
use Rattle.sheet.specs.Sheets.{Sheet, Good, Outcome}
use Rattle.sheets.specs.declared.rows.PinRow.{PinRow}
use Rattle.sheets.specs.declared.rows.ModeRow.{ModeRow}
use Rattle.sheets.specs.declared.rows.BoundRow.{BoundRow}
use Rattle.sheets.specs.declared.rows.Demand.{Demand}
use Rattle.sheets.specs.Turns.{unit_count, places}
use Rattle.sheets.specs.Kinds.{pin_sheet, mode_sheet, bound_sheet, demand_sheet}

-- the rows of the four sheets of a board
pub record Rows : Type 0 where
  pub pins : List PinRow
  pub modes : List ModeRow
  pub bounds : List BoundRow
  pub demands : List Demand

-- the rows of a sheet keep their rules and none is missing
pub record Keeps {Row : Type 0} (s : Sheet Row) (rows : List Row) : Type 0 where
  pub good : Good s rows
  pub whole : s.Whole rows

-- the rows of all four keep their rules, those of each sheet beside those of the sheets before it
pub record Kept (pins : List PinRow) (modes : List ModeRow) (bounds : List BoundRow) (demands : List Demand) : Type 0 where
  pub pins_keep : Keeps pin_sheet pins
  pub modes_keep : Keeps (mode_sheet (unit_count pins)) modes
  pub bounds_keep : Keeps (bound_sheet (places pins modes)) bounds
  pub demands_keep : Keeps demand_sheet demands

-- a sheet's fault is passed on as it is
abbrev pub as_is : SheetFault → SheetFault
as_is f = f

-- the sheets are read one after the other, and the first fault is the answer
abbrev pub Reading : List ℕ → List ℕ → List ℕ → List ℕ → Result Rows SheetFault → Type 0
Reading b0 b1 b2 b3 =
    Then (Outcome pin_sheet b0) as_is (λ ps.
    Then (Outcome (mode_sheet (unit_count ps)) b1) as_is (λ ms.
    Then (Outcome (bound_sheet (places ps ms)) b2) as_is (λ bs.
    Then (Outcome demand_sheet b3) as_is (λ ds.
    Answers (record { pins = ps; modes = ms; bounds = bs; demands = ds })))))

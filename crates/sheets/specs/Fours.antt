-- The bytes of the four sheets of a board. Assumes nothing.
use Rattle.std.specs.Prelude.{ℕ, List}
use Rattle.sheets.specs.declared.four.FourSheets.{FourSheets}

-- the bytes of each sheet
pub record Four : Type 0 where
  pub pins : List ℕ
  pub modes : List ℕ
  pub bounds : List ℕ
  pub demands : List ℕ

-- the bytes that are lent
abbrev pub four_of : FourSheets → Four
four_of f = record { pins = f.pins.now; modes = f.modes.now; bounds = f.bounds.now; demands = f.demands.now }

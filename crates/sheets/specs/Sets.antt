-- The rows that a set of sheets holds. Assumes nothing.
use Rattle.std.specs.Prelude.{vec_items}
use Rattle.sheets.specs.declared.set.Sheets.{Sheets}
use Rattle.sheets.specs.Reading.{Rows}

abbrev pub rows_of : Sheets → Rows
rows_of s = record { pins = vec_items s.pins; modes = vec_items s.modes; bounds = vec_items s.bounds; demands = vec_items s.demands }

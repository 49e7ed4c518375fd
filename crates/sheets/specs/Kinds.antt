-- The four kinds of sheet: names, how a row is written, its ranges and its turn. Assumes nothing.
use Rattle.std.specs.Prelude.{◌≡◌, ℕ, ◌+◌, ◌<◌, ◌≤◌, List, [], ◌∷◌, length, codes, decimal}
use Rattle.sheet.specs.Sheets.{Sheet, After, Ends}
use Rattle.sheets.specs.declared.rows.Way.{Way}
use Rattle.sheets.specs.declared.rows.Way.TheVariants.{Drives, Loads}
use Rattle.sheets.specs.declared.rows.Kind.{Kind}
use Rattle.sheets.specs.declared.rows.Kind.TheVariants.{Rest, Pass}
use Rattle.sheets.specs.declared.rows.PinRow.{PinRow}
use Rattle.sheets.specs.declared.rows.ModeRow.{ModeRow}
use Rattle.sheets.specs.declared.rows.BoundRow.{BoundRow}
use Rattle.sheets.specs.declared.rows.Demand.{Demand}
use Rattle.sheets.specs.declared.rows.Place.{Place}
use Rattle.sheets.specs.Turns.{Begins, Follows, Due}

abbrev pub way_letter : Way → List ℕ
way_letter Drives = codes "D"
way_letter Loads = codes "L"

abbrev pub kind_letter : Kind → List ℕ
kind_letter Rest = codes "R"
kind_letter Pass = codes "P"

pub record PinRanged (r : PinRow) : Type 0 where
  pub unit : r.unit ≤ 23
  pub pin : r.pin ≤ 3
  pub rail : r.rail ≤ 23

pub record ModeRanged (r : ModeRow) : Type 0 where
  pub unit : r.unit ≤ 23
  pub mode : r.mode ≤ 5
  pub draw : r.draw ≤ 1000000
  pub heat : r.heat ≤ 15

pub record BoundRanged (r : BoundRow) : Type 0 where
  pub unit : r.unit ≤ 23
  pub mode : r.mode ≤ 5
  pub pin : r.pin ≤ 3
  pub low : r.low ≤ 65535
  pub high : r.high ≤ 65535

pub record DemandRanged (d : Demand) : Type 0 where
  pub rail : d.rail ≤ 23
  pub low : d.low ≤ 65535
  pub high : d.high ≤ 65535

-- sheet 0: pins, one unit after the other
abbrev pub pin_sheet : Sheet PinRow
pin_sheet = record {
  number = 0;
  names = codes "unit,pin,rail,way";
  width = 4;
  fields = λ r. decimal r.unit ∷ decimal r.pin ∷ decimal r.rail ∷ way_letter r.way ∷ [];
  Ranged = PinRanged;
  Next = λ rows r. After (Begins r.unit r.pin) (λ e. Follows r.unit r.pin e.unit e.pin) rows;
  Level = λ r. Unit {0};
  Whole = λ rows. 0 < length rows;
}

-- sheet 1: modes of so many units, all of which have some
abbrev pub mode_sheet : ℕ → Sheet ModeRow
mode_sheet units = record {
  number = 1;
  names = codes "unit,mode,kind,draw,heat";
  width = 5;
  fields = λ r. decimal r.unit ∷ decimal r.mode ∷ kind_letter r.kind ∷ decimal r.draw ∷ decimal r.heat ∷ [];
  Ranged = ModeRanged;
  Next = λ rows r. (r.unit < units) × After (Begins r.unit r.mode) (λ e. Follows r.unit r.mode e.unit e.mode) rows;
  Level = λ r. Unit {0};
  Whole = Ends (λ r. r.unit + 1 ≡ units);
}

-- sheet 2: bounds, one row at each place that is due
abbrev pub bound_sheet : List Place → Sheet BoundRow
bound_sheet ps = record {
  number = 2;
  names = codes "unit,mode,pin,low,high";
  width = 5;
  fields = λ r. decimal r.unit ∷ decimal r.mode ∷ decimal r.pin ∷ decimal r.low ∷ decimal r.high ∷ [];
  Ranged = BoundRanged;
  Next = λ rows r. Due ps (length rows) r;
  Level = λ r. r.low ≤ r.high;
  Whole = λ rows. length rows ≡ length ps;
}

-- sheet 3: demands, the rails rising
abbrev pub demand_sheet : Sheet Demand
demand_sheet = record {
  number = 3;
  names = codes "rail,low,high";
  width = 3;
  fields = λ d. decimal d.rail ∷ decimal d.low ∷ decimal d.high ∷ [];
  Ranged = DemandRanged;
  Next = λ rows d. After (Unit {0}) (λ e. e.rail < d.rail) rows;
  Level = λ d. d.low ≤ d.high;
  Whole = λ rows. Unit {0};
}

-- Rows as fields: what is written of a row tells it. Assumes nothing.
use Rattle.std.specs.Prelude.{◌≡◌, ℕ, ◌≤◌, List, decimal, refl}
use Rattle.std.proofs.Common.{arith, rules}
use Rattle.std.proofs.lemmas.Fmt.{decimal_injective}
use Rattle.sheet.specs.Sheets.{Plain, Lawful}
use Rattle.sheet.proofs.Laws.{plain_decimal}
use Rattle.sheets.specs.declared.rows.Way.{Way}
use Rattle.sheets.specs.declared.rows.Way.TheVariants.{Drives, Loads}
use Rattle.sheets.specs.declared.rows.Kind.{Kind}
use Rattle.sheets.specs.declared.rows.Kind.TheVariants.{Rest, Pass}
use Rattle.sheets.specs.declared.rows.PinRow.{PinRow}
use Rattle.sheets.specs.declared.rows.ModeRow.{ModeRow}
use Rattle.sheets.specs.declared.rows.BoundRow.{BoundRow}
use Rattle.sheets.specs.declared.rows.Demand.{Demand}
use Rattle.sheets.specs.declared.rows.Place.{Place}
use Rattle.sheets.specs.Kinds.{way_letter, kind_letter, PinRanged, ModeRanged, BoundRanged, DemandRanged, pin_sheet, mode_sheet, bound_sheet, demand_sheet}

number_same : (m n : ℕ) → m ≤ 1000000 → n ≤ 1000000 → decimal m ≡ decimal n → m ≡ n
number_same m n h k e = decimal_injective m n (omega arith) (omega arith) e

number_plain : (n : ℕ) → n ≤ 1000000 → Plain (decimal n)
number_plain n h = plain_decimal n (omega arith)

way_same : (v w : Way) → way_letter v ≡ way_letter w → v ≡ w
way_same Drives Drives e = refl
way_same Drives Loads e = let z : ◌≡◌ {A = ℕ} 68 76 = cc in absurd (omega arith)
way_same Loads Drives e = let z : ◌≡◌ {A = ℕ} 76 68 = cc in absurd (omega arith)
way_same Loads Loads e = refl

way_plain : (w : Way) → Plain (way_letter w)
way_plain Drives = search rules
way_plain Loads = search rules

kind_same : (k j : Kind) → kind_letter k ≡ kind_letter j → k ≡ j
kind_same Rest Rest e = refl
kind_same Rest Pass e = let z : ◌≡◌ {A = ℕ} 82 80 = cc in absurd (omega arith)
kind_same Pass Rest e = let z : ◌≡◌ {A = ℕ} 80 82 = cc in absurd (omega arith)
kind_same Pass Pass e = refl

kind_plain : (k : Kind) → Plain (kind_letter k)
kind_plain Rest = search rules
kind_plain Pass = search rules

pin_same : (d e : PinRow) → PinRanged d → PinRanged e → pin_sheet.fields d ≡ pin_sheet.fields e → d ≡ e
pin_same d e h k p =
    let unit = number_same d.unit e.unit (omega (arith, h.unit)) (omega (arith, k.unit)) (cc) in
    let pin = number_same d.pin e.pin (omega (arith, h.pin)) (omega (arith, k.pin)) (cc) in
    let rail = number_same d.rail e.rail (omega (arith, h.rail)) (omega (arith, k.rail)) (cc) in
    let way = way_same d.way e.way (cc) in
    λ i. record { unit = unit i; pin = pin i; rail = rail i; way = way i }

pub pins_lawful : Lawful pin_sheet
pins_lawful = record {
  some = omega arith;
  fill = λ d h. refl;
  plain = λ d h. (number_plain d.unit (omega (arith, h.unit)), (number_plain d.pin (omega (arith, h.pin)), (number_plain d.rail (omega (arith, h.rail)), (way_plain d.way, tt))));
  same = pin_same;
  named = search rules;
}

mode_same : (units : ℕ) (d e : ModeRow) → ModeRanged d → ModeRanged e → (mode_sheet units).fields d ≡ (mode_sheet units).fields e → d ≡ e
mode_same units d e h k p =
    let unit = number_same d.unit e.unit (omega (arith, h.unit)) (omega (arith, k.unit)) (cc) in
    let mode = number_same d.mode e.mode (omega (arith, h.mode)) (omega (arith, k.mode)) (cc) in
    let kind = kind_same d.kind e.kind (cc) in
    let draw = number_same d.draw e.draw h.draw k.draw (cc) in
    let heat = number_same d.heat e.heat (omega (arith, h.heat)) (omega (arith, k.heat)) (cc) in
    λ i. record { unit = unit i; mode = mode i; kind = kind i; draw = draw i; heat = heat i }

pub modes_lawful : (units : ℕ) → Lawful (mode_sheet units)
modes_lawful units = record {
  some = omega arith;
  fill = λ d h. refl;
  plain = λ d h. (number_plain d.unit (omega (arith, h.unit)), (number_plain d.mode (omega (arith, h.mode)), (kind_plain d.kind, (number_plain d.draw h.draw, (number_plain d.heat (omega (arith, h.heat)), tt)))));
  same = mode_same units;
  named = search rules;
}

bound_same : (ps : List Place) (d e : BoundRow) → BoundRanged d → BoundRanged e → (bound_sheet ps).fields d ≡ (bound_sheet ps).fields e → d ≡ e
bound_same ps d e h k p =
    let unit = number_same d.unit e.unit (omega (arith, h.unit)) (omega (arith, k.unit)) (cc) in
    let mode = number_same d.mode e.mode (omega (arith, h.mode)) (omega (arith, k.mode)) (cc) in
    let pin = number_same d.pin e.pin (omega (arith, h.pin)) (omega (arith, k.pin)) (cc) in
    let low = number_same d.low e.low (omega (arith, h.low)) (omega (arith, k.low)) (cc) in
    let high = number_same d.high e.high (omega (arith, h.high)) (omega (arith, k.high)) (cc) in
    λ i. record { unit = unit i; mode = mode i; pin = pin i; low = low i; high = high i }

pub bounds_lawful : (ps : List Place) → Lawful (bound_sheet ps)
bounds_lawful ps = record {
  some = omega arith;
  fill = λ d h. refl;
  plain = λ d h. (number_plain d.unit (omega (arith, h.unit)), (number_plain d.mode (omega (arith, h.mode)), (number_plain d.pin (omega (arith, h.pin)), (number_plain d.low (omega (arith, h.low)), (number_plain d.high (omega (arith, h.high)), tt)))));
  same = bound_same ps;
  named = search rules;
}

demand_same : (d e : Demand) → DemandRanged d → DemandRanged e → demand_sheet.fields d ≡ demand_sheet.fields e → d ≡ e
demand_same d e h k p =
    let rail = number_same d.rail e.rail (omega (arith, h.rail)) (omega (arith, k.rail)) (cc) in
    let low = number_same d.low e.low (omega (arith, h.low)) (omega (arith, k.low)) (cc) in
    let high = number_same d.high e.high (omega (arith, h.high)) (omega (arith, k.high)) (cc) in
    λ i. record { rail = rail i; low = low i; high = high i }

pub demands_lawful : Lawful demand_sheet
demands_lawful = record {
  some = omega arith;
  fill = λ d h. refl;
  plain = λ d h. (number_plain d.rail (omega (arith, h.rail)), (number_plain d.low (omega (arith, h.low)), (number_plain d.high (omega (arith, h.high)), tt)));
  same = demand_same;
  named = search rules;
}

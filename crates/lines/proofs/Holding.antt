-- The platform that rows describe has what their lines say, and nothing else. Assumes nothing.
use Rattle.std.proofs.Common.{◌≡◌, ℕ, zero, suc, ◌+◌, ◌<◌, ◌≤◌, eqb, List, [], ◌∷◌, ◌++◌, length, get_or, filter, sym, refl, ap, ◌∙◌, ⊎_elim, arith}
use lib.ListN.{length-map}
use Rattle.std.specs.List.{ContainsAt as Has, AllByRecursion}
use Rattle.std.proofs.lemmas.List.FromFn.{length-map-range_with_len, get_or-map-range_with_len}
use Rattle.std.proofs.ByRecursion.{all-has, all_has_itself, All-weaker, has_append_right}
use Rattle.std.proofs.lemmas.List.{get_or-map, length_push}
use Rattle.std.proofs.lemmas.Bool.{cases_lt, eq-eqb, eqb-true, and_from, and_parts}
use Rattle.sheet.specs.Sheets.{GoodAfter}
use Rattle.sheets.specs.declared.rows.PinRow.{PinRow}
use Rattle.sheets.specs.declared.rows.ModeRow.{ModeRow}
use Rattle.sheets.specs.declared.rows.BoundRow.{BoundRow}
use Rattle.sheets.specs.Turns.{unit_count, in_unit, pins_of, places}
use Rattle.sheets.specs.Kinds.{pin_sheet, mode_sheet, bound_sheet, BoundRanged}
use Rattle.sheets.specs.Reading.{Rows, Kept}
use Rattle.sheets.proofs.Counts.{count_end}
use Rattle.platform.specs.declared.parts.Bounds.{Bounds}
use Rattle.platform.specs.Units.{Device, unit_at, pin_at, mode_at, pin_bounds, bounds_at, no_device, no_pin, no_mode, no_bounds}
use Rattle.platform.specs.Describing.{pin_from, bounds_from, mode_in_unit, modes_of, bound_in_mode, bounds_of, four, mode_from, unit_from, rail_count, described}
use Rattle.platform.proofs.Numbered.{all_fit}
use Rattle.platform.proofs.Regular.{regular_from, below_count}
use Rattle.lines.specs.Lines.{pin_count, mode_count, PinHolds, ModeHolds, BoundsHold, PinSaid, ModeSaid, BoundsSaid, Holds}
use Rattle.lines.proofs.Turns.{On, Stands, Turned, all_turned, numbered, within, stands, found}
use Rattle.lines.proofs.Owed.{as_many, bounds_on, as_modes}

four_at : (bs : List Bounds) (p : ℕ) → p ≤ 3 → get_or (four bs) p no_bounds ≡ bounds_at bs p
four_at bs zero h = refl
four_at bs (suc zero) h = refl
four_at bs (suc (suc zero)) h = refl
four_at bs (suc (suc (suc zero))) h = refl
four_at bs (suc (suc (suc (suc p)))) h = absurd (omega arith)

last_rail : (rows : List PinRow) → 0 < rail_count rows → (r : PinRow) × Has rows r × (r.rail + 1 ≡ rail_count rows)
last_rail [] some = absurd (omega arith)
last_rail (r ∷ rows) some =
    ⊎_elim
    (λ (more : r.rail + 1 < rail_count rows). let (x, there, top) = last_rail rows (omega arith) in (x, has_append_right (r ∷ []) rows x there, omega arith))
    (λ (most : rail_count rows ≤ r.rail + 1). (r, (0, omega arith, λ d. refl), omega arith))
    (cases_lt (r.rail + 1) (rail_count rows))

module _ (rows : Rows) (kept : Kept rows.pins rows.modes rows.bounds rows.demands) where
  abbrev n : ℕ
  n = unit_count rows.pins

  abbrev units : List Device
  units = (described rows).units

  many : length units ≡ n
  many = length-map-range_with_len (unit_from rows) 0 n

  at : (k : ℕ) → k < n → unit_at units k ≡ unit_from rows k
  at k lt = get_or-map-range_with_len (unit_from rows) 0 n k k no_device lt (omega arith)

  pins_are : (k : ℕ) → k < n → pin_count units k ≡ length (pins_of k rows.pins)
  pins_are k lt = ap (λ u. length u.pins) (at k lt) ∙ length-map (pins_of k rows.pins) pin_from

  modes_are : (k : ℕ) → k < n → mode_count units k ≡ length (modes_of k rows.modes)
  modes_are k lt = ap (λ u. length u.modes) (at k lt) ∙ length-map (modes_of k rows.modes) (mode_from rows.bounds)

  pin_turns : Turned (λ r. r.unit) (λ r. r.pin) rows.pins
  pin_turns = all_turned (λ r. r.unit) (λ r. r.pin) pin_sheet (λ before r f. f.next) rows.pins kept.pins_keep.good kept.pins_keep.whole

  mode_turns : Turned (λ r. r.unit) (λ r. r.mode) rows.modes
  mode_turns =
      let e = kept.modes_keep.whole in
      all_turned (λ r. r.unit) (λ r. r.mode) (mode_sheet n) (λ before r f. f.next.1) rows.modes kept.modes_keep.good (omega (arith, ap length e.whole, length_push e.before e.last))

  pins_on : (k : ℕ) → On (λ r. r.pin) 0 (pins_of k rows.pins)
  pins_on = numbered (λ r. r.unit) (λ r. r.pin) pin_turns

  modes_on : (k : ℕ) → On (λ r. r.mode) 0 (modes_of k rows.modes)
  modes_on = numbered (λ r. r.unit) (λ r. r.mode) mode_turns

  pin_unit : (r : PinRow) → Has rows.pins r → r.unit < n
  pin_unit r has = omega (arith, within (λ x. x.unit) (λ x. x.pin) pin_turns r has, ap unit_count pin_turns.ends ∙ count_end pin_turns.before pin_turns.last)

  mode_unit : (r : ModeRow) → Has rows.modes r → r.unit < n
  mode_unit r has = all-has (λ x. x.unit < n) rows.modes r (below [] rows.modes kept.modes_keep.good) has
    where
      below : (before rest : List ModeRow) → GoodAfter (mode_sheet n) before rest → AllByRecursion (λ x. x.unit < n) rest
      below before [] good = tt
      below before (x ∷ rest) good = (good.0.next.0, below (before ++ x ∷ []) rest good.1)

  pin_stands : (r : PinRow) → Has rows.pins r → Stands (λ x. x.pin) (pins_of r.unit rows.pins) r
  pin_stands r has = stands (λ x. x.pin) (in_unit r.unit) rows.pins (pins_on r.unit) r has (eq-eqb r.unit r.unit refl)

  mode_stands : (r : ModeRow) → Has rows.modes r → Stands (λ x. x.mode) (modes_of r.unit rows.modes) r
  mode_stands r has = stands (λ x. x.mode) (mode_in_unit r.unit) rows.modes (modes_on r.unit) r has (eq-eqb r.unit r.unit refl)

  mode_is : (r : ModeRow) → Has rows.modes r → mode_at (unit_at units r.unit) r.mode ≡ mode_from rows.bounds r
  mode_is r has =
      let s = mode_stands r has in
      ap (λ u. mode_at u r.mode) (at r.unit (mode_unit r has)) ∙ get_or-map (mode_from rows.bounds) (modes_of r.unit rows.modes) r.mode r no_mode s.0 ∙ ap (mode_from rows.bounds) (s.1 r)

  pin_holds : (r : PinRow) → Has rows.pins r → PinHolds units r
  pin_holds r has =
      let lt = pin_unit r has in
      let s = pin_stands r has in
      record {
        unit = omega (arith, many);
        pin = omega (arith, pins_are r.unit lt, s.0);
        same = ap (λ u. pin_at u r.pin) (at r.unit lt) ∙ get_or-map pin_from (pins_of r.unit rows.pins) r.pin r no_pin s.0 ∙ ap pin_from (s.1 r);
      }

  mode_holds : (r : ModeRow) → Has rows.modes r → ModeHolds units r
  mode_holds r has =
      let lt = mode_unit r has in
      let e = mode_is r has in
      record {
        unit = omega (arith, many);
        mode = omega (arith, modes_are r.unit lt, (mode_stands r has).0);
        kind = ap (λ m. m.kind) e;
        draw = ap (λ m. m.draw) e;
        heat = ap (λ m. m.heat) e;
      }

  pin_said : (k p : ℕ) → k < length units → p < pin_count units k → PinSaid rows k p
  pin_said k p in' lt =
      let low : k < n = omega (arith, many) in
      let (r, there, passes, number) = found (λ x. x.pin) (in_unit k) rows.pins (pins_on k) p (omega (arith, pins_are k low)) in
      record { row = r; there = there; unit = eqb-true r.unit k passes; pin = number }

  mode_said : (k m : ℕ) → k < length units → m < mode_count units k → ModeSaid rows k m
  mode_said k m in' lt =
      let low : k < n = omega (arith, many) in
      let (r, there, passes, number) = found (λ x. x.mode) (mode_in_unit k) rows.modes (modes_on k) m (omega (arith, modes_are k low)) in
      record { row = r; there = there; unit = eqb-true r.unit k passes; mode = number }

  -- the bound rows of a mode are numbered by its unit's pins
  module _ (k m : ℕ) (lt : m < length (modes_of k rows.modes)) where
    own_many : length (filter (bound_in_mode k m) rows.bounds) ≡ length (pins_of k rows.pins)
    own_many = as_many rows.pins rows.modes rows.bounds kept.bounds_keep k m (pins_on k) (modes_on k) lt

    own_on : On (λ b. b.pin) 0 (filter (bound_in_mode k m) rows.bounds)
    own_on = bounds_on rows.pins rows.modes rows.bounds kept.bounds_keep k m (pins_on k) (modes_on k) lt

    own_stands : (b : BoundRow) → Has rows.bounds b → b.unit ≡ k → b.mode ≡ m → Stands (λ x. x.pin) (filter (bound_in_mode k m) rows.bounds) b
    own_stands b has u e =
        stands (λ x. x.pin) (bound_in_mode k m) rows.bounds own_on b has
        (and_from (eqb b.unit k) (eqb b.mode m) (eq-eqb b.unit k u) (eq-eqb b.mode m e))

    own_said : (p : ℕ) → p < length (pins_of k rows.pins) → BoundsSaid rows k m p
    own_said p few =
        let (b, there, passes, number) = found (λ x. x.pin) (bound_in_mode k m) rows.bounds own_on p (omega (arith, own_many)) in
        let both = and_parts (eqb b.unit k) (eqb b.mode m) passes in
        record { row = b; there = there; unit = eqb-true b.unit k both.0; mode = eqb-true b.mode m both.1; pin = number }

  bound_said : (k m p : ℕ) → k < length units → m < mode_count units k → p < pin_count units k → BoundsSaid rows k m p
  bound_said k m p in' lt few =
      let low : k < n = omega (arith, many) in
      own_said k m (omega (arith, modes_are k low)) p (omega (arith, pins_are k low))

  -- the mode of a bound row
  bound_mode : (b : BoundRow) → Has rows.bounds b → (b.unit < n) × (b.mode < length (modes_of b.unit rows.modes))
  bound_mode =
      let P : ℕ → ℕ → Type 0 = λ u m. (u < n) × (m < length (modes_of u rows.modes)) in
      as_modes rows.pins rows.modes rows.bounds kept.bounds_keep P (All-weaker (Has rows.modes) (λ r. P r.unit r.mode) (λ r has. (mode_unit r has, (mode_stands r has).0)) rows.modes (all_has_itself rows.modes))

  -- its mode's bounds at its pin are its own
  bounds_same : (b : BoundRow) → Has rows.bounds b → b.unit < length units → b.mode < mode_count units b.unit → Stands (λ x. x.pin) (filter (bound_in_mode b.unit b.mode) rows.bounds) b → pin_bounds (unit_at units b.unit) b.mode b.pin ≡ bounds_from b
  bounds_same b has in' few s =
      let said = mode_said b.unit b.mode in' few in
      let r = said.row in
      let small : b.pin ≤ 3 = (all-has (λ x. BoundRanged x × (x.low ≤ x.high)) rows.bounds b (all_fit (bound_sheet (places rows.pins rows.modes)) [] rows.bounds kept.bounds_keep.good) has).0.pin in
      sym (λ i. pin_bounds (unit_at units (said.unit i)) (said.mode i) b.pin)
      ∙ ap (λ m. bounds_at m.bounds b.pin) (mode_is r said.there)
      ∙ (λ i. bounds_at (four (bounds_of (said.unit i) (said.mode i) rows.bounds)) b.pin)
      ∙ four_at (bounds_of b.unit b.mode rows.bounds) b.pin small
      ∙ get_or-map bounds_from (filter (bound_in_mode b.unit b.mode) rows.bounds) b.pin b no_bounds s.0
      ∙ ap bounds_from (s.1 b)

  bounds_hold : (b : BoundRow) → Has rows.bounds b → BoundsHold units b
  bounds_hold b has =
      let (low, lt) = bound_mode b has in
      let few : b.mode < mode_count units b.unit = omega (arith, modes_are b.unit low) in
      let s = own_stands b.unit b.mode lt b has refl refl in
      let in' : b.unit < length units = omega (arith, many) in
      record {
        unit = in';
        mode = few;
        pin = omega (arith, pins_are b.unit low, own_many b.unit b.mode lt, s.0);
        same = bounds_same b has in' few s;
      }

  each : {Row : Type 0} (P : Row → Type 0) (xs : List Row) → ((r : Row) → Has xs r → P r) → AllByRecursion P xs
  each P xs h = All-weaker (Has xs) P h xs (all_has_itself xs)

  pub holds : Holds rows (described rows)
  holds = record {
    pins = each (PinHolds units) rows.pins pin_holds;
    modes = each (ModeHolds units) rows.modes mode_holds;
    bounds = each (BoundsHold units) rows.bounds bounds_hold;
    rails = below_count rows.pins;
    rails_said = last_rail rows.pins (regular_from rows kept).0.0;
    units_said = λ k lt. pin_said k 0 lt ((regular_from rows kept).1.1.0 k lt).0;
    pins_said = pin_said;
    modes_said = mode_said;
    bounds_said = bound_said;
  }

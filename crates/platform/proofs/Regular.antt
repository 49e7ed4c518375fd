-- What the rules of the sheets make of the platform that their rows describe. Assumes nothing.
use Rattle.std.proofs.Common.{◌≡◌, ℕ, ◌+◌, ◌<◌, ◌≤◌, List, [], ◌∷◌, ◌++◌, length, sym, ap, ◌∙◌, subst, ⊎_elim, arith}
use mathlib.Core.Logic.{∥∥₁_elim}
use mathlib.Core.HLevel.{Π_prop, ×_prop, ⊥_prop}
use native.Mathlib.Bridge.{le_prop}
use lib.ListN.{length-map}
use Rattle.std.specs.List.{AllByRecursion}
use Rattle.std.proofs.lemmas.List.FromFn.{length-map-range_with_len, get_or-map-range_with_len}
use Rattle.std.proofs.ByRecursion.{All-get_or, all_kept_by, All-map, All-weaker}
use Rattle.std.proofs.lemmas.List.{same_from_push, get_or_past, length_push}
use Rattle.std.proofs.lemmas.Bool.{cases_lt}
use Rattle.sheets.specs.declared.rows.PinRow.{PinRow}
use Rattle.sheets.specs.declared.rows.ModeRow.{ModeRow}
use Rattle.sheets.specs.Turns.{unit_count, in_unit, pins_of}
use Rattle.sheets.specs.Kinds.{pin_sheet, mode_sheet, bound_sheet, PinRanged, ModeRanged}
use Rattle.sheets.specs.Reading.{Rows, Kept}
use Rattle.sheets.proofs.Counts.{count_end}
use Rattle.platform.specs.declared.parts.Bounds.{Bounds}
use Rattle.platform.specs.declared.parts.Mode.{Mode}
use Rattle.platform.specs.Units.{Device, unit_at, rail_at, mode_at, bounds_at, no_pin, no_mode, no_bounds, no_device}
use Rattle.platform.specs.Rules.{Each, PinsCounted, ModesCounted, Wired, Mild, Cool, Level}
use Rattle.platform.specs.Describing.{pin_from, bounds_from, mode_in_unit, modes_of, bound_in_mode, bounds_of, four, mode_from, unit_from, rail_count, described}
use Rattle.platform.proofs.Numbered.{all_fit, Counted, counted, all_counted}

-- all rules but the two that are checked when a platform is made
abbrev pub Regular : Rows → Type 0
Regular rows =
    ((1 ≤ (described rows).rails) × ((described rows).rails ≤ 24))
    × (((1 ≤ length (described rows).units) × (length (described rows).units ≤ 24))
    × (Each PinsCounted (described rows).units
    × (Each ModesCounted (described rows).units
    × (Each (Wired (described rows).rails) (described rows).units
    × (Each Mild (described rows).units
    × (Each Cool (described rows).units
    × Each Level (described rows).units))))))

regular_prop : (rows : Rows) → IsProp (Regular rows)
regular_prop rows =
    ×_prop (×_prop le_prop le_prop)
    (×_prop (×_prop le_prop le_prop)
    (×_prop (Π_prop (λ k. Π_prop (λ h. ×_prop le_prop le_prop)))
    (×_prop (Π_prop (λ k. Π_prop (λ h. ×_prop le_prop le_prop)))
    (×_prop (Π_prop (λ k. Π_prop (λ h. Π_prop (λ p. Π_prop (λ q. le_prop)))))
    (×_prop (Π_prop (λ k. Π_prop (λ h. Π_prop (λ p. Π_prop (λ q. le_prop)))))
    (×_prop (Π_prop (λ k. Π_prop (λ h. Π_prop (λ p. Π_prop (λ q. le_prop)))))
    (Π_prop (λ k. Π_prop (λ h. Π_prop (λ m. Π_prop (λ p. Π_prop (λ q. ⊥_prop))))))))))))

pub below_count : (rows : List PinRow) → AllByRecursion (λ r. r.rail < rail_count rows) rows
below_count [] = tt
below_count (r ∷ rows) = (omega arith, All-weaker (λ x. x.rail < rail_count rows) (λ x. x.rail < rail_count (r ∷ rows)) (λ x h. omega arith) rows (below_count rows))

few_rails : (rows : List PinRow) → AllByRecursion (λ r. r.rail ≤ 23) rows → rail_count rows ≤ 24
few_rails [] h = omega arith
few_rails (r ∷ rows) h = omega (arith, few_rails rows h.1, h.0)

level_at : (bs : List Bounds) → AllByRecursion (λ b. b.low ≤ b.high) bs → (p : ℕ) → (bounds_at bs p).high < (bounds_at bs p).low → ⊥
level_at bs all p bad = ⊎_elim (λ lt. let h = All-get_or (λ b. b.low ≤ b.high) bs p no_bounds lt all in omega arith) (λ past. let e = get_or_past bs p no_bounds past in omega (arith, ap (λ b. b.low) e, ap (λ b. b.high) e)) (cases_lt p (length bs))

four_level : (bs : List Bounds) → AllByRecursion (λ b. b.low ≤ b.high) bs → AllByRecursion (λ b. b.low ≤ b.high) (four bs)
four_level bs all = (at 0, (at 1, (at 2, (at 3, tt))))
  where
    at : (p : ℕ) → (bounds_at bs p).low ≤ (bounds_at bs p).high
    at p = ⊎_elim (λ bad. absurd (level_at bs all p bad)) (λ good. good) (cases_lt (bounds_at bs p).high (bounds_at bs p).low)

at_last : {X : Type 0} (P : X → Type 0) (before : List X) (e : X) → AllByRecursion P (before ++ e ∷ []) → P e
at_last P [] e h = h.0
at_last P (x ∷ before) e h = at_last P before e h.1

module _ (rows : Rows) (kept : Kept rows.pins rows.modes rows.bounds rows.demands) where
  abbrev n : ℕ
  n = unit_count rows.pins

  abbrev units : List Device
  units = (described rows).units

  many : length units ≡ n
  many = length-map-range_with_len (unit_from rows) 0 n

  at : (k : ℕ) → k < length units → unit_at units k ≡ unit_from rows k
  at k h = get_or-map-range_with_len (unit_from rows) 0 n k k no_device (omega (arith, many)) (omega arith)

  -- what holds of each described unit holds of each unit
  each : (P : Device → Type 0) → ((k : ℕ) → k < n → P (unit_from rows k)) → Each P units
  each P h k lt = subst P (sym (at k lt)) (h k (omega (arith, many)))

  pin_rows : Counted (λ r. r.unit) (λ r. r.pin) 3 rows.pins
  pin_rows = all_counted (λ r. r.unit) (λ r. r.pin) 3 pin_sheet (λ before r f. (f.next, f.ranged.pin)) rows.pins kept.pins_keep.good kept.pins_keep.whole

  last_unit : n ≡ pin_rows.last.unit + 1
  last_unit = ap unit_count pin_rows.ends ∙ count_end pin_rows.before pin_rows.last

  pins_fit : AllByRecursion (λ r. PinRanged r × Unit {0}) rows.pins
  pins_fit = all_fit pin_sheet [] rows.pins kept.pins_keep.good

  low_units : pin_rows.last.unit ≤ 23
  low_units = (at_last (λ r. PinRanged r × Unit {0}) pin_rows.before pin_rows.last (subst (AllByRecursion (λ r. PinRanged r × Unit {0})) pin_rows.ends pins_fit)).0.unit

  modes_some : 0 < length rows.modes
  modes_some = let e = kept.modes_keep.whole in omega (arith, ap length e.whole, length_push e.before e.last)

  mode_rows : Counted (λ r. r.unit) (λ r. r.mode) 5 rows.modes
  mode_rows = all_counted (λ r. r.unit) (λ r. r.mode) 5 (mode_sheet n) (λ before r f. (f.next.1, f.ranged.mode)) rows.modes kept.modes_keep.good modes_some

  last_mode : n ≡ mode_rows.last.unit + 1
  last_mode =
      let e = kept.modes_keep.whole in
      let same = same_from_push mode_rows.before e.before mode_rows.last e.last (sym mode_rows.ends ∙ e.whole) in
      sym e.holds ∙ ap (λ r. r.unit + 1) (sym same.1)

  modes_fit : AllByRecursion (λ r. ModeRanged r × Unit {0}) rows.modes
  modes_fit = all_fit (mode_sheet n) [] rows.modes kept.modes_keep.good

  own_modes : (P : Mode → Type 0) → ((r : ModeRow) → ModeRanged r → P (mode_from rows.bounds r)) → (k m : ℕ) → m < length (unit_from rows k).modes → P (mode_at (unit_from rows k) m)
  own_modes P h k m lt =
      All-get_or P (unit_from rows k).modes m no_mode lt
      (All-map P (mode_from rows.bounds) (modes_of k rows.modes) (all_kept_by (mode_in_unit k) (λ r. P (mode_from rows.bounds r)) rows.modes (All-weaker (λ r. ModeRanged r × Unit {0}) (λ r. P (mode_from rows.bounds r)) (λ r f. h r f.0) rows.modes modes_fit)))

  own_bounds : (k m : ℕ) → AllByRecursion (λ b. b.low ≤ b.high) (bounds_of k m rows.bounds)
  own_bounds k m =
      All-map (λ b. b.low ≤ b.high) bounds_from _ (all_kept_by (bound_in_mode k m) (λ r. r.low ≤ r.high) rows.bounds (All-weaker _ (λ r. r.low ≤ r.high) (λ r f. f.1) rows.bounds (all_fit (bound_sheet _) [] rows.bounds kept.bounds_keep.good)))

  wired : (k p : ℕ) → p < length (unit_from rows k).pins → rail_at (unit_from rows k) p < rail_count rows.pins
  wired k p lt =
      All-get_or (λ q. q.rail < rail_count rows.pins) (unit_from rows k).pins p no_pin lt
      (All-map (λ q. q.rail < rail_count rows.pins) pin_from (pins_of k rows.pins) (all_kept_by (in_unit k) (λ r. r.rail < rail_count rows.pins) rows.pins (below_count rows.pins)))

  some_rails : (rs : List PinRow) → 0 < length rs → 1 ≤ rail_count rs
  some_rails [] h = absurd (omega arith)
  some_rails (r ∷ rs) h = omega arith

  pub regular_from : Regular rows
  regular_from = (
    (some_rails rows.pins kept.pins_keep.whole, few_rails rows.pins (All-weaker _ (λ r. r.rail ≤ 23) (λ r f. f.0.rail) rows.pins pins_fit)),
    (
      (omega (arith, many, last_unit), omega (arith, many, last_unit, low_units)),
      (
        each PinsCounted (λ k lt. let c = counted (λ r. r.unit) (λ r. r.pin) 3 pin_rows k (omega (arith, last_unit)) in let e = length-map (pins_of k rows.pins) pin_from in (omega arith, omega arith)),
        (
          each ModesCounted (λ k lt. let c = counted (λ r. r.unit) (λ r. r.mode) 5 mode_rows k (omega (arith, last_mode)) in let e = length-map (modes_of k rows.modes) (mode_from rows.bounds) in (omega arith, omega arith)),
          (
            each (Wired (rail_count rows.pins)) (λ k lt. wired k),
            (
              each Mild (λ k lt. own_modes (λ m. m.draw ≤ 1000000) (λ r f. f.draw) k),
              (
                each Cool (λ k lt. own_modes (λ m. m.heat ≤ 15) (λ r f. f.heat) k),
                each Level (λ k lt m p h. let all = own_modes (λ x. AllByRecursion (λ b. b.low ≤ b.high) x.bounds) (λ r f. four_level _ (own_bounds r.unit r.mode)) k m h.0 in level_at _ all p h.2),
              ),
            ),
          ),
        ),
      ),
    ),
  )

pub regular : (rows : Rows) → ∥ Kept rows.pins rows.modes rows.bounds rows.demands ∥₁ → Regular rows
regular rows kept = ∥∥₁_elim kept (regular_prop rows) (regular_from rows)

-- each unit that the rows describe by itself
pub unit_regular : (rows : Rows) (k : ℕ) → ∥ Kept rows.pins rows.modes rows.bounds rows.demands ∥₁ → k < unit_count rows.pins → PinsCounted (unit_from rows k) × ModesCounted (unit_from rows k) × Wired 24 (unit_from rows k)
unit_regular rows k kept lt =
    let r = regular rows kept in
    let e = length-map-range_with_len (unit_from rows) 0 (unit_count rows.pins) in
    let there : k < length (described rows).units = omega (arith, e) in
    let is = get_or-map-range_with_len (unit_from rows) 0 (unit_count rows.pins) k k no_device (omega (arith, e)) (omega arith) in (
      subst PinsCounted is (r.1.1.0 k there),
      subst ModesCounted is (r.1.1.1.0 k there),
      subst (Wired 24) is (λ p h. omega (arith, r.1.1.1.1.0 k there p h, r.0.1)),
    )

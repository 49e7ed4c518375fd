-- Loops that build units from rows, one turn on. Assumes nothing.
use Rattle.std.proofs.Common.{◌≡◌, ℕ, ◌+◌, ◌<◌, max, List, [], ◌∷◌, ◌++◌, map, length, get_or, take, sym, refl, ap, ◌∙◌, arith}
use Rattle.std.specs.List.{range_with_len}
use Rattle.std.proofs.lemmas.List.{take_more, map_push}
use Rattle.std.proofs.lemmas.List.FromFn.{map-range_with_len_more}
use Rattle.sheets.specs.declared.rows.PinRow.{PinRow}
use Rattle.sheets.specs.Reading.{Rows}
use Rattle.platform.specs.declared.unit.Unit.{Unit}
use Rattle.platform.specs.Devices.{device, devices}
use Rattle.platform.specs.Describing.{unit_from, rail_count}

pub rails_push : (xs : List PinRow) (r : PinRow) → rail_count (xs ++ r ∷ []) ≡ max (r.rail + 1) (rail_count xs)
rails_push [] r = refl
rails_push (x ∷ xs) r = omega (arith, rails_push xs r)

pub rails_more : (rows : List PinRow) (i : ℕ) (d : PinRow) (rails : ℕ) → i < length rows → rails ≡ rail_count (take i rows) → max ((get_or rows i d).rail + 1) rails ≡ rail_count (take (i + 1) rows)
rails_more rows i d rails lt e = ap (max ((get_or rows i d).rail + 1)) e ∙ sym (rails_push (take i rows) (get_or rows i d)) ∙ ap rail_count (sym (take_more rows i d lt))

pub units_more : (rows : Rows) (k : ℕ) (out : List Unit) (u : Unit) {more : List Unit} → devices out ≡ map (unit_from rows) (range_with_len 0 k) → device u ≡ unit_from rows k → more ≡ out ++ u ∷ [] → devices more ≡ map (unit_from rows) (range_with_len 0 (k + 1))
units_more rows k out u e is push =
    ap devices push ∙ map_push device out u ∙ (λ i. e i ++ is i ∷ []) ∙ sym (map-range_with_len_more (unit_from rows) 0 k k (omega arith))

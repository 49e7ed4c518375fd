-- How many units the pins have. Assumes nothing.
use Rattle.std.proofs.Common.{◌≡◌, ℕ, ◌+◌, ◌-◌, ◌<◌, List, [], ◌∷◌, ◌++◌, length, get_or, take, slice_get, Bor, Option, Some, None, MatchOption, sym, refl, ap, ◌∙◌, arith}
use Rattle.std.specs.Option.{option_copied}
use Rattle.std.proofs.lemmas.Option.{slice_get-get_or, slice_get_within, get_or_from_slice_get}
use Rattle.sheet.proofs.Rows.{last_ends}
use Rattle.sheets.specs.declared.rows.PinRow.{PinRow}
use Rattle.sheets.specs.Turns.{unit_count}

pub count_end : (before : List PinRow) (e : PinRow) → unit_count (before ++ e ∷ []) ≡ e.unit + 1
count_end [] e = refl
count_end (b ∷ []) e = refl
count_end (b ∷ c ∷ bs) e = count_end (c ∷ bs) e

pub count_last : (rows : List PinRow) (x : PinRow) → 0 < length rows → x ≡ get_or rows (length rows - 1) x → unit_count rows ≡ x.unit + 1
count_last rows x some is = ap unit_count (last_ends rows x some is) ∙ count_end (take (length rows - 1) rows) x

-- the count by what `last` gives
pub counted : (rows : List PinRow) (o : Option (Bor PinRow)) (n : ℕ) → option_copied o ≡ slice_get rows (length rows - 1) → MatchOption o (n ≡ 0) (λ x. n ≡ x.now.unit + 1) → n ≡ unit_count rows
counted [] None n is h = h
counted (r ∷ rs) None n is h = let e = is ∙ slice_get-get_or (r ∷ rs) (length (r ∷ rs) - 1) r (omega arith) in let z : ◌≡◌ {A = ℕ} 0 1 = cc in absurd (omega arith)
counted rows (Some x) n is h =
    h ∙ sym (count_last rows x.now (omega (arith, slice_get_within rows _ _ (sym is))) (sym (get_or_from_slice_get rows _ x.now x.now (sym is))))

-- Rows that number things within units: how many each unit has. Assumes nothing.
use Rattle.std.proofs.Common.{◌≡◌, ℕ, ◌+◌, ◌<◌, ◌≤◌, Bool, true, false, cond, eqb, List, [], ◌∷◌, ◌++◌, length, filter, sym, refl, ap, ◌∙◌, subst, inl, inr, ⊎_elim, append_assoc, append-nil, arith, length-append}
use Rattle.std.specs.List.{AllByRecursion}
use Rattle.std.proofs.lemmas.List.Elements.{filter-append}
use Rattle.std.proofs.lemmas.Bool.{cases_lt, eq-eqb, ne_eqb}
use Rattle.sheet.specs.Sheets.{Sheet, After, Fits, GoodAfter, Good}
use Rattle.sheets.specs.Turns.{Begins, Follows}

-- each row is within its ranges, and its low is not above its high
pub all_fit : {Row : Type 0} (s : Sheet Row) (b rs : List Row) → GoodAfter s b rs → AllByRecursion (λ r. s.Ranged r × s.Level r) rs
all_fit s b [] h = tt
all_fit s b (r ∷ rs) h = ((h.0.ranged, h.0.level), all_fit s (b ++ r ∷ []) rs h.1)

module _ {Row : Type 0} (unit num : Row → ℕ) (top : ℕ) where
  abbrev pub amount : ℕ → List Row → ℕ
  amount k rows = length (filter (λ r. eqb (unit r) k) rows)

  one : (b : Bool) (r : Row) → length (cond b (r ∷ []) []) ≡ cond b 1 0
  one true r = refl
  one false r = refl

  push : (k : ℕ) (rows : List Row) (r : Row) → amount k (rows ++ r ∷ []) ≡ amount k rows + cond (eqb (unit r) k) 1 0
  push k rows r =
      ap length (filter-append (λ x. eqb (unit x) k) rows (r ∷ [])) ∙ length-append (filter (λ x. eqb (unit x) k) rows) (cond (eqb (unit r) k) (r ∷ []) []) ∙ ap (λ n. amount k rows + n) (one (eqb (unit r) k) r)

  pushed : (k : ℕ) (rows : List Row) (r : Row) → unit r ≡ k → amount k (rows ++ r ∷ []) ≡ amount k rows + 1
  pushed k rows r e = push k rows r ∙ ap (λ b. amount k rows + cond b 1 0) (eq-eqb (unit r) k e)

  passed : (k : ℕ) (rows : List Row) (r : Row) → (unit r ≡ k → ⊥) → amount k (rows ++ r ∷ []) ≡ amount k rows
  passed k rows r ne = let p = push k rows r ∙ ap (λ b. amount k rows + cond b 1 0) (ne_eqb (unit r) k ne) in omega arith

  -- after these rows, of which e is the last
  pub record Sofar (rows : List Row) (e : Row) : Type 0 where
    earlier : (k : ℕ) → k < unit e → (1 ≤ amount k rows) × (amount k rows ≤ top + 1)
    here : amount (unit e) rows ≡ num e + 1
    later : (k : ℕ) → unit e < k → amount k rows ≡ 0
    small : num e ≤ top

  first : (r : Row) → unit r ≡ 0 → num r ≡ 0 → Sofar (r ∷ []) r
  first r u n = record {
    earlier = λ k lt. absurd (omega arith);
    here = omega (arith, pushed (unit r) [] r refl);
    later = λ k lt. passed k [] r (λ e. omega arith);
    small = omega arith;
  }

  next : (rows : List Row) (e r : Row) → Sofar rows e → Follows (unit r) (num r) (unit e) (num e) → num r ≤ top → Sofar (rows ++ r ∷ []) r
  next rows e r h (inl same) few = record {
    earlier = λ k lt. let p = passed k rows r (λ q. omega arith) in let old = h.earlier k (omega (arith, same.0)) in (omega arith, omega arith);
    here = let P : ℕ → Type 0 = λ k. amount k rows ≡ num e + 1 in let old = subst P (sym same.0) h.here in omega (arith, pushed (unit r) rows r refl, same.1);
    later = λ k lt. passed k rows r (λ q. omega arith) ∙ h.later k (omega (arith, same.0));
    small = few;
  }
  next rows e r h (inr on) few = record {
    earlier = λ k lt. let p = passed k rows r (λ q. omega arith) in ⊎_elim
        (λ (low : k < unit e). let old = h.earlier k low in (omega arith, omega arith))
        (λ (high : unit e ≤ k). let P : ℕ → Type 0 = λ x. amount x rows ≡ num e + 1 in let same : unit e ≡ k = omega (arith, on.0) in let old = subst P same h.here in (omega arith, omega (arith, h.small)))
        (cases_lt k (unit e));
    here = let old = h.later (unit r) (omega (arith, on.0)) in omega (arith, pushed (unit r) rows r refl, on.1);
    later = λ k lt. passed k rows r (λ q. omega arith) ∙ h.later k (omega (arith, on.0));
    small = few;
  }

  -- there is a last row, and so far all went in turn
  pub record Counted (rows : List Row) : Type 0 where
    pub before : List Row
    pub last : Row
    pub ends : rows ≡ before ++ last ∷ []
    pub sofar : Sofar rows last

  -- each unit up to the last has one to top + 1
  pub counted : {rows : List Row} (c : Counted rows) (k : ℕ) → k < unit c.last + 1 → (1 ≤ amount k rows) × (amount k rows ≤ top + 1)
  counted {rows = rows} c k lt =
      ⊎_elim
      (λ (low : k < unit c.last). c.sofar.earlier k low)
      (λ (high : unit c.last ≤ k). let P : ℕ → Type 0 = λ x. amount x rows ≡ num c.last + 1 in let same : unit c.last ≡ k = omega arith in let e = subst P same c.sofar.here in (omega arith, omega (arith, c.sofar.small)))
      (cases_lt k (unit c.last))

  module _ (s : Sheet Row) (turn : (before : List Row) (r : Row) → Fits s before r → After (Begins (unit r) (num r)) (λ e. Follows (unit r) (num r) (unit e) (num e)) before × (num r ≤ top)) where
    run : (before rest : List Row) → GoodAfter s before rest → Counted before → Counted (before ++ rest)
    run before [] good c = subst Counted (sym (append-nil before)) c
    run before (r ∷ rest) good c =
        let t = turn before r good.0 in
        let more : Counted (before ++ r ∷ []) = record { before = before; last = r; ends = refl; sofar = next before c.last r c.sofar (t.0.step c.before c.last c.ends) t.1 } in
        subst Counted (append_assoc before (r ∷ []) rest) (run (before ++ r ∷ []) rest good.1 more)

    pub all_counted : (rows : List Row) → Good s rows → 0 < length rows → Counted rows
    all_counted [] good some = absurd (omega arith)
    all_counted (r ∷ rest) good some =
        let b = (turn [] r good.0).0.first refl in
        run (r ∷ []) rest good.1 (record { before = []; last = r; ends = refl; sofar = first r b.unit_0 b.number_0 })

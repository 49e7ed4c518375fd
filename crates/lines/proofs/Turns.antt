-- Rows in turn: those of a unit are numbered from 0 on. Assumes nothing.
use Rattle.std.proofs.Common.{◌≡◌, ℕ, zero, suc, ◌+◌, ◌<◌, ◌≤◌, Bool, true, cond, eqb, List, [], ◌∷◌, ◌++◌, map, length, get_or, filter, sym, refl, ap, ◌∙◌, subst, inl, inr, ⊎_elim, append_assoc, append-nil, arith}
use Rattle.std.specs.List.{ContainsAt as Has}
use Rattle.std.proofs.lemmas.List.Elements.{filter-append}
use Rattle.std.proofs.ByRecursion.{kept_by_passes, all_kept_by, all-has, all_has_itself}
use Rattle.std.proofs.lemmas.List.{length_push}
use Rattle.std.proofs.lemmas.Bool.{cases_eq, cases_lt, cond-true, cond-false, eq-eqb, ne_eqb}
use Rattle.sheet.specs.Sheets.{Sheet, After, Fits, GoodAfter, Good}
use Rattle.sheets.specs.Turns.{Begins, Follows}
use Rattle.lines.proofs.Filters.{pick, all_has_kept}

module _ {Row : Type 0} (num : Row → ℕ) where
  -- the rows are numbered from a on
  abbrev pub On : ℕ → List Row → Type 0
  On a [] = Unit {0}
  On a (r ∷ rs) = (num r ≡ a) × On (a + 1) rs

  on_push : (a : ℕ) (rs : List Row) (r : Row) → On a rs → num r ≡ a + length rs → On a (rs ++ r ∷ [])
  on_push a [] r h e = (omega arith, tt)
  on_push a (x ∷ rs) r h e = (h.0, on_push (a + 1) rs r h.1 (omega arith))

  pub on_at : (a : ℕ) (rs : List Row) (j : ℕ) (d : Row) → On a rs → j < length rs → num (get_or rs j d) ≡ a + j
  on_at a [] j d h lt = absurd (omega arith)
  on_at a (x ∷ rs) zero d h lt = omega (arith, h.0)
  on_at a (x ∷ rs) (suc j) d h lt = omega (arith, on_at (a + 1) rs j d h.1 (omega arith))

  none_at : (a m : ℕ) (rs : List Row) → On a rs → m < a → filter (λ r. eqb (num r) m) rs ≡ []
  none_at a m [] h lt = refl
  none_at a m (x ∷ rs) h lt = cond-false (eqb (num x) m) _ _ (ne_eqb (num x) m (λ e. omega (arith, h.0))) ∙ none_at (a + 1) m rs h.1 (omega arith)

  -- one row has the number m
  pub only_at : (a j m : ℕ) (rs : List Row) (d : Row) → On a rs → a + j ≡ m → j < length rs → filter (λ r. eqb (num r) m) rs ≡ get_or rs j d ∷ []
  only_at a j m [] d h e lt = absurd (omega arith)
  only_at a zero m (x ∷ rs) d h e lt = cond-true (eqb (num x) m) _ _ (eq-eqb (num x) m (omega (arith, h.0))) ∙ ap (λ l. x ∷ l) (none_at (a + 1) m rs h.1 (omega arith))
  only_at a (suc j) m (x ∷ rs) d h e lt = cond-false (eqb (num x) m) _ _ (ne_eqb (num x) m (λ q. omega (arith, h.0))) ∙ only_at (a + 1) j m rs d h.1 (omega arith) (omega arith)

  -- the row stands in the list at its number
  abbrev pub Stands : List Row → Row → Type 0
  Stands rs r = (num r < length rs) × ((d : Row) → get_or rs (num r) d ≡ r)

  module _ (p : Row → Bool) (rows : List Row) (on : On 0 (filter p rows)) where
    -- a row that passes stands at its number
    pub stands : (r : Row) → Has rows r → p r ≡ true → Stands (filter p rows) r
    stands r has passes =
        let (j, lt, at) = all-has (λ x. p x ≡ true → Has (filter p rows) x) rows r (all_has_kept p rows) has passes in
        let e : num r ≡ j = omega (arith, ap num (at r), on_at 0 (filter p rows) j r on lt) in
        (omega arith, λ d. ap (λ i. get_or (filter p rows) i d) e ∙ at d)

    -- at each number stands a row that passes
    pub found : (j : ℕ) → j < length (filter p rows) → (r : Row) × Has rows r × (p r ≡ true) × (num r ≡ j)
    found j lt =
        let (r, at) = pick (filter p rows) j lt in
        let has : Has (filter p rows) r = (j, lt, at) in (
          r,
          all-has (Has rows) (filter p rows) r (all_kept_by p (Has rows) rows (all_has_itself rows)) has,
          all-has (λ x. p x ≡ true) (filter p rows) r (kept_by_passes p rows) has,
          omega (arith, ap num (at r), on_at 0 (filter p rows) j r on lt),
        )

-- numbers seen through a map
pub on_map : {X Y : Type 0} (num : Y → ℕ) (f : X → Y) (a : ℕ) (xs : List X) → On (λ x. num (f x)) a xs → On num a (map f xs)
on_map num f a [] h = tt
on_map num f a (x ∷ xs) h = (h.0, on_map num f (a + 1) xs h.1)

pub on_unmap : {X Y : Type 0} (num : Y → ℕ) (f : X → Y) (a : ℕ) (xs : List X) → On num a (map f xs) → On (λ x. num (f x)) a xs
on_unmap num f a [] h = tt
on_unmap num f a (x ∷ xs) h = (h.0, on_unmap num f (a + 1) xs h.1)

module _ {Row : Type 0} (unit num : Row → ℕ) where
  -- the rows of unit k
  abbrev pub own : ℕ → List Row → List Row
  own k rows = filter (λ r. eqb (unit r) k) rows

  added : (k : ℕ) (rows : List Row) (r : Row) → unit r ≡ k → own k (rows ++ r ∷ []) ≡ own k rows ++ r ∷ []
  added k rows r e = filter-append (λ x. eqb (unit x) k) rows (r ∷ []) ∙ ap (λ b. own k rows ++ cond b (r ∷ []) []) (eq-eqb (unit r) k e)

  skipped : (k : ℕ) (rows : List Row) (r : Row) → (unit r ≡ k → ⊥) → own k (rows ++ r ∷ []) ≡ own k rows
  skipped k rows r ne = filter-append (λ x. eqb (unit x) k) rows (r ∷ []) ∙ ap (λ b. own k rows ++ cond b (r ∷ []) []) (ne_eqb (unit r) k ne) ∙ append-nil (own k rows)

  -- after these rows, of which e is the last
  record Sofar (rows : List Row) (e : Row) : Type 0 where
    on : (k : ℕ) → On num 0 (own k rows)
    here : length (own (unit e) rows) ≡ num e + 1
    later : (k : ℕ) → unit e < k → length (own k rows) ≡ 0

  on_next : (rows : List Row) (r : Row) → num r ≡ length (own (unit r) rows) → ((k : ℕ) → On num 0 (own k rows)) → (k : ℕ) → On num 0 (own k (rows ++ r ∷ []))
  on_next rows r new on k =
      ⊎_elim
      (λ (same : unit r ≡ k). let n : num r ≡ length (own k rows) = new ∙ ap (λ x. length (own x rows)) same in subst (On num 0) (sym (added k rows r same)) (on_push num 0 (own k rows) r (on k) (omega arith)))
      (λ (other : unit r ≡ k → ⊥). subst (On num 0) (sym (skipped k rows r other)) (on k))
      (cases_eq (unit r) k)

  step : (rows : List Row) (r : Row) → num r ≡ length (own (unit r) rows) → ((k : ℕ) → On num 0 (own k rows)) → ((k : ℕ) → unit r < k → length (own k rows) ≡ 0) → Sofar (rows ++ r ∷ []) r
  step rows r new on after = record {
    on = on_next rows r new on;
    here = ap length (added (unit r) rows r refl) ∙ length_push (own (unit r) rows) r ∙ ap (λ n. n + 1) (sym new);
    later = λ k lt. ap length (skipped k rows r (λ e. omega arith)) ∙ after k lt;
  }

  next : (rows : List Row) (e r : Row) → Sofar rows e → Follows (unit r) (num r) (unit e) (num e) → Sofar (rows ++ r ∷ []) r
  next rows e r h (inl same) = step rows r (same.1 ∙ sym h.here ∙ ap (λ k. length (own k rows)) (sym same.0)) h.on (λ k lt. h.later k (omega (arith, same.0)))
  next rows e r h (inr on) = step rows r (on.1 ∙ sym (h.later (unit r) (omega (arith, on.0)))) h.on (λ k lt. h.later k (omega (arith, on.0)))

  -- there is a last row, and all went in turn
  pub record Turned (rows : List Row) : Type 0 where
    pub before : List Row
    pub last : Row
    pub ends : rows ≡ before ++ last ∷ []
    sofar : Sofar rows last

  module _ (s : Sheet Row) (turn : (before : List Row) (r : Row) → Fits s before r → After (Begins (unit r) (num r)) (λ e. Follows (unit r) (num r) (unit e) (num e)) before) where
    run : (before rest : List Row) → GoodAfter s before rest → Turned before → Turned (before ++ rest)
    run before [] good t = subst Turned (sym (append-nil before)) t
    run before (r ∷ rest) good t =
        let more : Turned (before ++ r ∷ []) = record { before = before; last = r; ends = refl; sofar = next before t.last r t.sofar ((turn before r good.0).step t.before t.last t.ends) } in
        subst Turned (append_assoc before (r ∷ []) rest) (run (before ++ r ∷ []) rest good.1 more)

    pub all_turned : (rows : List Row) → Good s rows → 0 < length rows → Turned rows
    all_turned [] good some = absurd (omega arith)
    all_turned (r ∷ rest) good some =
        let b = (turn [] r good.0).first refl in
        run (r ∷ []) rest good.1 (record { before = []; last = r; ends = refl; sofar = step [] r b.number_0 (λ k. tt) (λ k lt. refl) })

  module _ {rows : List Row} (t : Turned rows) where
    pub numbered : (k : ℕ) → On num 0 (own k rows)
    numbered = t.sofar.on

    -- no row is of a later unit than the last
    pub within : (r : Row) → Has rows r → unit r ≤ unit t.last
    within r has =
        ⊎_elim
        (λ (past : unit t.last < unit r). let at = stands num (λ x. eqb (unit x) (unit r)) rows (numbered (unit r)) r has (eq-eqb (unit r) (unit r) refl) in absurd (omega (arith, t.sofar.later (unit r) past, at.0)))
        (λ (low : unit r ≤ unit t.last). low)
        (cases_lt (unit t.last) (unit r))

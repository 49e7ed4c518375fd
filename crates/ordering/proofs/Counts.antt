-- The place of a rail as a count among the pairs of values. Assumes nothing.
use Rattle.std.proofs.Common.{◌≡◌, ℕ, zero, suc, ◌+◌, ◌≤◌, ◌<◌, Bool, not, cond, eqb, List, length, get_or, take, zip, count_by, refl, ap, ◌∙◌, ⊎_elim, arith, add-one}
use Rattle.std.proofs.lemmas.Bool.{eq-eqb, ne_eqb, cases_eq}
use Rattle.std.proofs.lemmas.List.Sums.{count_by_more_no, count_by_more_yes}
use Rattle.std.proofs.lemmas.Slice.Zip.{get_or-zip, length-zip}
use Rattle.platform.specs.Units.{value_of}
use Rattle.ordering.specs.Sets.{rank}

-- the two values differ
abbrev pub differ : ℕ × ℕ → Bool
differ p = not (eqb p.0 p.1)

module _ (xs ys : List ℕ) (same : length xs ≡ length ys) where
  pub rank_counts : (r : ℕ) → r ≤ length xs → rank (value_of xs) (value_of ys) r ≡ count_by differ (take r (zip xs ys))
  rank_counts zero le = refl
  rank_counts (suc r) le =
      let long : r < length (zip xs ys) = rw (length-zip xs ys) (omega arith) in
      let pair = get_or-zip xs ys r (0, 0) (omega arith) (omega arith) in
      let before = rank_counts r (omega arith) in
      let next : take (suc r) (zip xs ys) ≡ take (r + 1) (zip xs ys) = rw add-one refl in
      ⊎_elim
      (λ (e : get_or xs r 0 ≡ get_or ys r 0).
      let more = count_by_more_no differ (zip xs ys) r (0, 0) long (ap differ pair ∙ ap not (eq-eqb (get_or xs r 0) (get_or ys r 0) e)) in
      ap (λ b. rank (value_of xs) (value_of ys) r + cond b 0 1) (eq-eqb (get_or xs r 0) (get_or ys r 0) e) ∙ omega (arith, before, more, ap (count_by differ) next))
      (λ ne.
      let more = count_by_more_yes differ (zip xs ys) r (0, 0) long (ap differ pair ∙ ap not (ne_eqb (get_or xs r 0) (get_or ys r 0) ne)) in
      ap (λ b. rank (value_of xs) (value_of ys) r + cond b 0 1) (ne_eqb (get_or xs r 0) (get_or ys r 0) ne) ∙ omega (arith, before, more, ap (count_by differ) next))
      (cases_eq (get_or xs r 0) (get_or ys r 0))

-- The order of choices, seen from their first modes. Assumes nothing.
use Rattle.std.proofs.Common.{◌≡◌, ℕ, zero, suc, ◌+◌, ◌<◌, ◌≤◌, ◌≢◌, ◌⊎◌, List, length, set, sym, ◌∙◌, subst, inl, inr, ⊎_elim, arith, get_or-set_other, get_or-set_same}
use Rattle.std.proofs.lemmas.Bool.{cases_lt, cases_order}
use Rattle.settling.specs.Choices.{mode_of, Same, Before}

-- the modes with m at n begin as they did
pub goes_on : (modes : List ℕ) (n m : ℕ) → Same n (set modes n m) modes
goes_on modes n m k h = let ne : k ≢ n = omega arith in get_or-set_other modes n k m 0 ne

pub next_is : (modes : List ℕ) (n m : ℕ) → n < length modes → mode_of (set modes n m) n ≡ m
next_is modes n m long = get_or-set_same modes n m 0 long

-- b begins with the first n of a
module _ (n : ℕ) (a b : List ℕ) (same : Same n b a) where
  -- what comes before b on one unit more does not come after a
  pub before_back : (s : List ℕ) → Before (n + 1) s b → Before n s a ⊎ Same n s a
  before_back s f =
      ⊎_elim
      (λ lt. inl (f.0, (lt, (λ j h. f.1.1.0 j h ∙ same j (omega arith), omega (arith, f.1.1.1, same f.0 lt)))))
      (λ ge. inr (λ j h. f.1.1.0 j (omega (arith, f.1.0)) ∙ same j h))
      (cases_lt f.0 n)

  -- c has a higher mode next
  pub before_next : (c : List ℕ) → Same n c a → mode_of b n < mode_of c n → (s : List ℕ) → Before (n + 1) s b ⊎ Same (n + 1) s b → Before (n + 1) s c
  before_next c same2 up s = ⊎_elim
      (λ f. ⊎_elim
      (λ lt. (f.0, (omega arith, (λ j h. f.1.1.0 j h ∙ same j (omega arith) ∙ sym (same2 j (omega arith)), omega (arith, f.1.1.1, same f.0 lt, same2 f.0 lt)))))
      (λ (ge : n ≤ f.0).
      let e : f.0 ≡ n = omega (arith, f.1.0) in
      let less = subst (λ (k : ℕ). mode_of s k < mode_of b k) e f.1.1.1 in
      (n, (omega arith, (λ j h. f.1.1.0 j (omega arith) ∙ same j h ∙ sym (same2 j h), omega arith))))
      (cases_lt f.0 n))
      (λ all. (n, (omega arith, (λ j h. all j (omega arith) ∙ same j h ∙ sym (same2 j h), omega (arith, all n (omega arith))))))

-- what comes before a on the first n units comes before all that begin as a does
pub never_before : (n total : ℕ) (a s c : List ℕ) → Before n s a → Same n c a → Before total c s → ⊥
never_before n total a s c f same d =
    ⊎_elim
    (λ (e : f.0 ≡ d.0). let less = subst (λ (k : ℕ). mode_of s k < mode_of a k) e f.1.1.1 in let at = same d.0 (omega (arith, f.1.0)) in omega (arith, d.1.1.1))
    (⊎_elim
    (λ (lt : f.0 < d.0). omega (arith, f.1.1.1, d.1.1.0 f.0 lt, same f.0 f.1.0))
    (λ (gt : d.0 < f.0). omega (arith, d.1.1.1, f.1.1.0 d.0 gt, same d.0 (omega (arith, f.1.0)))))
    (cases_order f.0 d.0)

-- two choices that differ have an order
pub same_or_before : (n : ℕ) (a b : List ℕ) → Same n a b ⊎ (Before n a b ⊎ Before n b a)
same_or_before zero a b = inl (λ k h. absurd (omega arith))
same_or_before (suc n) a b = ⊎_elim
    (λ same. ⊎_elim
    (λ e. inl (λ k h. ⊎_elim (same k) (λ ge. let is : n ≡ k = omega arith in subst (λ (j : ℕ). mode_of a j ≡ mode_of b j) is e) (cases_lt k n)))
    (⊎_elim (λ lt. inr (inl (n, (omega arith, (same, lt))))) (λ gt. inr (inr (n, (omega arith, (λ k h. sym (same k h), gt))))))
    (cases_order (mode_of a n) (mode_of b n)))
    (⊎_elim (λ f. inr (inl (f.0, (omega (arith, f.1.0), f.1.1)))) (λ f. inr (inr (f.0, (omega (arith, f.1.0), f.1.1)))))
    (same_or_before n a b)

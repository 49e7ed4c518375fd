-- What looks through places and rails find. Assumes nothing.
use Rattle.std.proofs.Common.{ℕ, ◌+◌, ◌<◌, ◌≤◌, Bool, true, false, List, length, Some, None, Option, Decides, MatchBool, MatchOption, refl, ◌∙◌, subst, arith}
use Rattle.std.specs.List.{range_with_len, AllWithin, HoldsAt}
use Rattle.std.proofs.lemmas.List.FromFn.{length-range_with_len, get_or-range_with_len}
use Rattle.std.proofs.lemmas.Bool.{false≢true}
use Rattle.histories.specs.declared.step.Step.{Step}
use Rattle.openings.specs.Openings.{InForm, Formed, Misstep}

-- what a search through the places finds
pub first_misstep : (n : ℕ) (first : ℕ → ℕ) (script : List Step) (r : Option ℕ)
    → MatchOption r ((k : ℕ) → 0 ≤ k → k < length script + 1 → InForm n first script k) (λ i. (0 ≤ i) × (i < length script + 1) × (InForm n first script i → ⊥) × ((k : ℕ) → 0 ≤ k → k < i → InForm n first script k))
    → MatchOption r (Formed n first script) (λ k. Misstep n first script k)
first_misstep n first script None h = λ k le. h k (omega arith) (omega (arith, le))
first_misstep n first script (Some i) h = record { within = omega (arith, h.1); bad = h.2; first_bad = λ j lt. h.3 j (omega arith) lt }

-- whether each number below n has P, as a look at all of them answers
pub below_decided : (P : ℕ → Type 0) (n : ℕ) (b : Bool)
    → MatchBool b (AllWithin P (range_with_len 0 n) 0 (length (range_with_len 0 n))) ((k : ℕ) × (k < length (range_with_len 0 n)) × HoldsAt (λ i. P i → ⊥) (range_with_len 0 n) k)
    → Decides b ((i : ℕ) → i < n → P i)
below_decided P n true h = (
  λ _ i lt. subst P (get_or-range_with_len 0 n i 0 lt ∙ omega arith) (h i 0 (omega arith) (omega (arith, length-range_with_len 0 n))),
  λ _. refl,
)
below_decided P n false h = (
  λ e. absurd (false≢true e),
  λ all.
      let lt : h.0 < n = omega (arith, h.1, length-range_with_len 0 n) in
      absurd (subst (λ i. P i → ⊥) (get_or-range_with_len 0 n h.0 0 lt ∙ omega arith) (h.2 0) (all h.0 lt)),
)

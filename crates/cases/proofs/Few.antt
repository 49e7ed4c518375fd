-- What holds of each number below a small one. Assumes nothing.
use Rattle.std.proofs.Common.{◌≡◌, ℕ, ◌<◌, sym, subst, ⊎_elim, arith}
use Rattle.std.proofs.lemmas.Bool.{cases_lt}

pub one : (P : ℕ → Type 0) → P 0 → (k : ℕ) → k < 1 → P k
one P a k lt = let e : k ≡ 0 = omega arith in subst P (sym e) a

pub two : (P : ℕ → Type 0) → P 0 → P 1 → (k : ℕ) → k < 2 → P k
two P a b k lt = ⊎_elim (λ h. one P a k h) (λ h. let e : k ≡ 1 = omega arith in subst P (sym e) b) (cases_lt k 1)

pub three : (P : ℕ → Type 0) → P 0 → P 1 → P 2 → (k : ℕ) → k < 3 → P k
three P a b c k lt = ⊎_elim (λ h. two P a b k h) (λ h. let e : k ≡ 2 = omega arith in subst P (sym e) c) (cases_lt k 2)

pub four : (P : ℕ → Type 0) → P 0 → P 1 → P 2 → P 3 → (k : ℕ) → k < 4 → P k
four P a b c d k lt = ⊎_elim (λ h. three P a b c k h) (λ h. let e : k ≡ 3 = omega arith in subst P (sym e) d) (cases_lt k 3)

pub five : (P : ℕ → Type 0) → P 0 → P 1 → P 2 → P 3 → P 4 → (k : ℕ) → k < 5 → P k
five P a b c d f k lt = ⊎_elim (λ h. four P a b c d k h) (λ h. let e : k ≡ 4 = omega arith in subst P (sym e) f) (cases_lt k 4)

-- Of checks in their order one at most fails first. Assumes nothing.
use Rattle.std.proofs.Common.{◌≡◌, ℕ, zero, suc, List, [], ◌∷◌, refl, ap}
use Rattle.answers.specs.Checks.{FirstBad, Pass}

pub one_first : (Ps : List (Type 0)) (k j : ℕ) → FirstBad Ps k → FirstBad Ps j → k ≡ j
one_first [] k j p q = absurd p
one_first (P ∷ Ps) zero zero p q = refl
one_first (P ∷ Ps) zero (suc j) p q = absurd (p q.0)
one_first (P ∷ Ps) (suc k) zero p q = absurd (q p.0)
one_first (P ∷ Ps) (suc k) (suc j) p q = ap suc (one_first Ps k j p.1 q.1)

-- where each check holds none fails
pub none_bad : (Ps : List (Type 0)) (k : ℕ) → Pass Ps → FirstBad Ps k → ⊥
none_bad [] k p q = q
none_bad (P ∷ Ps) zero p q = q p.0
none_bad (P ∷ Ps) (suc k) p q = none_bad Ps k p.1 q.1

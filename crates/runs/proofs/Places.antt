-- Steps by place, as the code reads them. Assumes nothing.
use Rattle.std.proofs.Common.{◌≡◌, ℕ, zero, suc, ◌-◌, ◌<◌, List, [], ◌∷◌, length, get_or, drop, Some, None, Option, refl, ap, subst, arith}
use Rattle.histories.specs.declared.run.Direction.TheVariants.{Forward, Backward}
use Rattle.histories.specs.declared.step.Step.{Step}
use Rattle.histories.specs.declared.step.Step.TheVariants.{Start}
use Rattle.histories.specs.Rails.{rail_of}
use Rattle.runs.specs.Journeys.{OnRails, leading, current}

-- what the current step says of the script
leading_some : (l : List Step) (s : Step) → Some s ≡ leading l → (rest : List Step) × (l ≡ s ∷ rest)
leading_some [] s e = let z : ◌≡◌ {A = ℕ} 0 1 = cc in absurd (omega arith)
leading_some (x ∷ l) s e = (l, cc)

leading_none : (l : List Step) → ◌≡◌ {A = Option Step} None (leading l) → l ≡ []
leading_none [] e = refl
leading_none (x ∷ l) e = cc

pub ahead : (script : List Step) (k : ℕ) (s : Step) → Some s ≡ current script k Forward → (rest : List Step) × (drop k script ≡ s ∷ rest)
ahead script k s e = leading_some (drop k script) s e

pub behind : (script : List Step) (k : ℕ) (s : Step) → Some s ≡ current script k Backward → (0 < k) × ((rest : List Step) × (drop (k - 1) script ≡ s ∷ rest))
behind script zero s e = let z : ◌≡◌ {A = ℕ} 0 1 = cc in absurd (omega arith)
behind script (suc k) s e =
    let p : suc k - 1 ≡ k = omega arith in
    (omega arith, rw p (leading_some (drop k script) s e))

pub none_ahead : (script : List Step) (k : ℕ) → ◌≡◌ {A = Option Step} None (current script k Forward) → drop k script ≡ []
none_ahead script k e = leading_none (drop k script) e

-- the step at a place, by its number
pub step_here : (k : ℕ) (script : List Step) (d : Step) {s : Step} {rest : List Step} → drop k script ≡ s ∷ rest → (k < length script) × (get_or script k d ≡ s)
step_here zero [] d e = absurd (omega (arith, ap length e))
step_here zero (x ∷ xs) d e = (omega arith, cc)
step_here (suc k) [] d e = absurd (omega (arith, ap length e))
step_here (suc k) (x ∷ xs) d e = let w = step_here k xs d e in (omega (arith, w.0), w.1)

pub rail_here : (n k : ℕ) (script : List Step) {s : Step} {rest : List Step} → OnRails n script → drop k script ≡ s ∷ rest → rail_of s < n
rail_here n k script on e = let w = step_here k script (Start 0 0) e in subst (λ x. rail_of x < n) w.1 (on k w.0)

-- The rails some steps after given ones. Assumes nothing.
use Rattle.std.proofs.Common.{◌≡◌, ℕ, zero, suc, cond, eqb, List, [], ◌∷◌, drop, refl, ap}
use Rattle.histories.specs.declared.rail.Rail.{Rail}
use Rattle.histories.specs.declared.rail.Rail.TheVariants.{Still, Moving}
use Rattle.histories.specs.declared.step.Step.{Step}
use Rattle.histories.specs.declared.step.Step.TheVariants.{Start, Wait}
use Rattle.histories.specs.Rails.{end_of, stepped, after}

-- the rails k steps after these
abbrev pub from : (ℕ → Rail) → List Step → ℕ → ℕ → Rail
from rails script zero i = rails i
from rails script (suc k) i = stepped (drop k script) (from rails script k) i

-- a step makes the same of the same
pub stepped_same : (l : List Step) (a b : ℕ → Rail) (i : ℕ) → a i ≡ b i → stepped l a i ≡ stepped l b i
stepped_same [] a b i e = e
stepped_same (Start r t ∷ rest) a b i e = ap (λ s. cond (eqb i r) (Moving (end_of s) t) s) e
stepped_same (Wait r ∷ rest) a b i e = ap (λ s. cond (eqb i r) (Still (end_of s)) s) e

-- from rails that stand at a first mix
pub from_after : (first : ℕ → ℕ) (script : List Step) (k i : ℕ) → from (λ j. Still (first j)) script k i ≡ after first script k i
from_after first script zero i = refl
from_after first script (suc k) i = stepped_same (drop k script) (from (λ j. Still (first j)) script k) (after first script k) i (from_after first script k i)

-- one step, and then the rest
pub from_next : (rails : ℕ → Rail) (s : Step) (rest : List Step) (k i : ℕ) → from rails (s ∷ rest) (suc k) i ≡ from (stepped (s ∷ rest) rails) rest k i
from_next rails s rest zero i = refl
from_next rails s rest (suc k) i = stepped_same (drop k rest) (from rails (s ∷ rest) (suc k)) (from (stepped (s ∷ rest) rails) rest k) i (from_next rails s rest k i)

-- the same script makes the same of the same rails
pub from_same : (a b : ℕ → Rail) (script : List Step) (k : ℕ) → ((i : ℕ) → a i ≡ b i) → (i : ℕ) → from a script k i ≡ from b script k i
from_same a b script zero e i = e i
from_same a b script (suc k) e i = stepped_same (drop k script) (from a script k) (from b script k) i (from_same a b script k e i)

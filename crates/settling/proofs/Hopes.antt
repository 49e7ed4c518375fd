-- Between choices that fit and mixes that rest. Assumes nothing.
use Rattle.std.proofs.Common.{ℕ, zero, suc, ◌<◌, List, [], ◌∷◌, length, get_or, refl, subst, arith}
use Rattle.sheets.specs.declared.rows.Demand.{Demand}
use Rattle.platform.specs.Units.{Device, unit_at, rail_at, pin_bounds, value_of, Within, Rests, InMode, Resting}
use Rattle.platform.specs.Rules.{Sound}
use Rattle.settling.specs.Choices.{mode_of, InWindow, Fits, Meets, HopelessExactly}

first_or : (n : ℕ) (P : ℕ → ℕ → Type 0) (x : ℕ) (xs : List ℕ) → P 0 x → ((k : ℕ) → k < n → P (suc k) (get_or xs k 0)) → (k : ℕ) → k < suc n → P k (get_or (x ∷ xs) k 0)
first_or n P x xs here later zero h = here
first_or n P x xs here later (suc k) h = later k (omega arith)

-- a value for each place below n, as a list
listed : (n : ℕ) (P : ℕ → ℕ → Type 0) → ((k : ℕ) → k < n → (m : ℕ) × P k m) → (xs : List ℕ) × ((k : ℕ) → k < n → P k (get_or xs k 0))
listed zero P f = ([], λ k h. absurd (omega arith))
listed (suc n) P f =
    let here = f 0 (omega arith) in
    let later = listed n (λ k. P (suc k)) (λ k h. f (suc k) (omega arith)) in
    (here.0 ∷ later.0, first_or n P here.0 later.0 here.1 later.1)

module _ (rails : ℕ) (units : List Device) (demands : List Demand) where
  -- a mix with each value in its window meets the demands and rests
  pub meets_rests : Sound rails units → (choice : List ℕ) → ((k : ℕ) → k < length units → Rests (unit_at units k) (mode_of choice k)) → (mix : List ℕ) → ((r : ℕ) → r < 24 → InWindow units demands choice r (value_of mix r)) → Meets demands mix × Resting units mix
  meets_rests sound choice rest mix inside = (
    λ r h. (inside r h).0,
    λ k lt. (
      mode_of choice k,
      (
        rest k lt,
        λ p pin.
            let there : rail_at (unit_at units k) p < 24 = omega (arith, sound.wired k lt p pin, sound.rails_counted.1) in
            (inside (rail_at (unit_at units k) p) there).1 k lt p pin refl,
      ),
    ),
  )

  -- the modes that a resting mix puts the units in are a choice that fits
  choice_from_mix : (mix : List ℕ) → Meets demands mix → Resting units mix → (choice : List ℕ) × Fits units demands choice
  choice_from_mix mix meets rests =
      let chosen = listed (length units) (λ k m. Rests (unit_at units k) m × InMode (unit_at units k) m mix) rests in (
        chosen.0,
        record {
          rest = λ k h. (chosen.1 k h).0;
          meet = λ r h. (value_of mix r, (meets r h, λ k lt p pin e. let P : ℕ → Type 0 = λ x. Within (pin_bounds (unit_at units k) (mode_of chosen.0 k) p) (value_of mix x) in subst P e ((chosen.1 k lt).1 p pin)));
        },
      )

  -- a value out of each window makes a resting mix
  mix_from_choice : Sound rails units → (choice : List ℕ) → Fits units demands choice → (mix : List ℕ) × (Meets demands mix × Resting units mix)
  mix_from_choice sound choice fits =
      let drawn = listed 24 (λ r v. InWindow units demands choice r v) fits.meet in
      (drawn.0, meets_rests sound choice fits.rest drawn.0 drawn.1)

pub hopeless_exactly : HopelessExactly
hopeless_exactly rails units demands sound = (
  λ none mix meets rests. let found = choice_from_mix rails units demands mix meets rests in none found.0 found.1,
  λ hopeless choice fits. let found = mix_from_choice rails units demands sound choice fits in hopeless found.0 found.1.0 found.1.1,
)

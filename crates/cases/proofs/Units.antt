-- When the units of the small board are in some mode. Assumes nothing.
use Rattle.std.proofs.Common.{ℕ, ◌≤◌, ◌⊎◌, List, [], ◌∷◌, ⊎_elim, arith, lit<}
use Rattle.platform.specs.Units.{unit_at, InMode, value_of}
use Rattle.histories.specs.declared.rail.Rail.{Rail}
use Rattle.histories.specs.Spans.{InSpans, Safe}
use Rattle.spans.specs.Safety.{InSomeMode}
use Rattle.cases.specs.Board.{supply, regulator, load, small_board}
use Rattle.cases.proofs.Few.{one, two, three}

pub supply_in : (mix : List ℕ) → value_of mix 0 ≤ 12600 → InSomeMode supply mix
supply_in mix h = (2, (lit< tt, one _ (omega arith, omega arith)))

pub regulator_off : (mix : List ℕ) → value_of mix 0 ≤ 14000 → value_of mix 1 ≤ 0 → InSomeMode regulator mix
regulator_off mix h l = (0, (lit< tt, two _ (omega arith, omega arith) (omega arith, omega arith)))

pub regulator_up : (mix : List ℕ) → 5500 ≤ value_of mix 0 → value_of mix 0 ≤ 14000 → value_of mix 1 ≤ 5250 → InSomeMode regulator mix
regulator_up mix u h l = (2, (lit< tt, two _ (omega arith, omega arith) (omega arith, omega arith)))

pub load_in : (mix : List ℕ) → value_of mix 1 ≤ 1950 → InSomeMode load mix
load_in mix h = (2, (lit< tt, one _ (omega arith, omega arith)))

-- rail 1 leaves 0 before rail 0 is up
pub regulator_out : InSomeMode regulator (0 ∷ 1 ∷ []) → ⊥
regulator_out some =
    three (λ m. InMode regulator m (0 ∷ 1 ∷ []) → ⊥)
    (λ h. omega (arith, (h 1 (lit< tt)).1))
    (λ h. omega (arith, (h 0 (lit< tt)).0))
    (λ h. omega (arith, (h 0 (lit< tt)).0))
    some.0 some.1.0 some.1.1

-- the values of the two rails at which every unit is in some mode
pub record Good (a b : ℕ) : Type 0 where
  pub fed : a ≤ 12600
  pub regulated : (b ≤ 0) ⊎ (5500 ≤ a)
  pub loaded : b ≤ 1950

regulator_in : (mix : List ℕ) → Good (value_of mix 0) (value_of mix 1) → InSomeMode regulator mix
regulator_in mix g =
    ⊎_elim
    (λ h. regulator_off mix (omega (arith, g.fed)) h)
    (λ h. regulator_up mix h (omega (arith, g.fed)) (omega (arith, g.loaded)))
    g.regulated

-- rails that allow only such values are safe
pub safe_where : (rails : ℕ → Rail) → ((mix : List ℕ) → InSpans 2 rails (value_of mix) → Good (value_of mix 0) (value_of mix 1)) → Safe 2 small_board.units rails
safe_where rails good mix h =
    let g = good mix h in
    three (λ k. InSomeMode (unit_at small_board.units k) mix) (supply_in mix g.fed) (regulator_in mix g) (load_in mix g.loaded)

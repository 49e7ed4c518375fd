-- Scripts on the small board. Assumes nothing.
use Rattle.std.proofs.Common.{◌≡◌, ℕ, zero, suc, ◌<◌, ◌≤◌, List, [], ◌∷◌, get_or, replicate, Ok, Err, refl, ⊎_elim, arith, lit<, lit≤}
use Rattle.std.proofs.lemmas.List.{get_or_past, get_or-replicate}
use Rattle.std.proofs.lemmas.Bool.{cases_lt}
use Rattle.platform.specs.declared.parts.Bounds.{Bounds}
use Rattle.platform.specs.Units.{unit_at, bounds_at, value_of}
use Rattle.histories.specs.declared.rail.Rail.TheVariants.{Still, Moving}
use Rattle.histories.specs.Rails.{after, last_mix, IsStill}
use Rattle.histories.specs.Spans.{Safe}
use Rattle.spans.specs.Safety.{Allowed, SafeFor, pin_values, BadValues}
use Rattle.spans.specs.Judging.{LowestBad}
use Rattle.openings.specs.Openings.{InForm, Formed}
use Rattle.scripts.specs.declared.fault.ScriptFault.TheVariants.{OutOfForm, Unsafe}
use Rattle.scripts.specs.Checking.{spans_of, UnsafeStep, Checked}
use Rattle.cases.specs.Board.{regulator, small_board}
use Rattle.cases.specs.Moves.{off, rail_0_first, rail_1_first, both_at_once, idle_wait, mix_on, rail_1_ahead}
use Rattle.cases.proofs.Few.{one, two, four, five}
use Rattle.cases.proofs.Rests.{rests_off, rests_on}
use Rattle.cases.proofs.Orders.{rail_0_moves, safe_0_1}
use Rattle.cases.proofs.Units.{supply_in, regulator_off, regulator_out}

-- what comes before 0 and 1 at the regulator's pins
nothing_before : (mix : List ℕ) (p : ℕ) → p < 2 → pin_values regulator mix p < pin_values regulator (0 ∷ 1 ∷ []) p → value_of mix 1 ≤ 0
nothing_before mix p lt less =
    two (λ p. pin_values regulator mix p < pin_values regulator (0 ∷ 1 ∷ []) p → value_of mix 1 ≤ 0)
    (λ h. let z : value_of mix 0 < 0 = h in absurd (omega (arith, z)))
    (λ h. let z : value_of mix 1 < 1 = h in omega (arith, z))
    p lt less

past : (p : ℕ) → 2 ≤ p → get_or rail_1_ahead p 0 ≡ 0
past p le =
    ⊎_elim
    (λ lt. four (λ p. 2 ≤ p → get_or rail_1_ahead p 0 ≡ 0) (λ _. refl) (λ h. absurd (omega (arith, h))) (λ _. refl) (λ _. refl) p lt le)
    (λ far. get_or_past rail_1_ahead p 0 far)
    (cases_lt p 4)

-- where spans allow 0 and 1, and rail 0 no more than the regulator takes
bad : (spans : List Bounds) → Allowed 2 spans (0 ∷ 1 ∷ []) → (bounds_at spans 0).high ≤ 14000 → BadValues 2 spans regulator rail_1_ahead
bad spans allowed far = record {
  mix = 0 ∷ 1 ∷ [];
  first = record {
    allowed = allowed;
    bad = regulator_out;
    first = λ other inside before. regulator_off other (omega (arith, (inside 0 (lit< tt)).1, far)) (nothing_before other before.pin before.there before.less);
  };
  own = two _ refl refl;
  past = past;
}

-- where rail 0 is no higher than the supply gives
lowest : (spans : List Bounds) → Allowed 2 spans (0 ∷ 1 ∷ []) → (bounds_at spans 0).high ≤ 12600 → LowestBad small_board spans 1 rail_1_ahead
lowest spans allowed low = record {
  there = lit< tt;
  bad = bad spans allowed (omega (arith, low));
  lowest = one (λ j. SafeFor 2 spans (unit_at small_board.units j)) (λ mix inside. supply_in mix (omega (arith, (inside 0 (lit< tt)).1, low)));
}

-- rail 1 first
formed_1 : Formed 2 (value_of off) rail_1_first
formed_1 k le = five (InForm 2 (value_of off) rail_1_first)
    ((lit< tt, (0, refl)), λ _. lit< tt)
    ((lit< tt, (0, 1650, refl)), λ _. lit< tt)
    ((lit< tt, (0, refl)), λ _. lit< tt)
    ((lit< tt, (0, 11400, refl)), λ _. lit< tt)
    (two (λ i. IsStill (after (value_of off) rail_1_first 4 i)) (11400, refl) (1650, refl), λ _. lit< tt)
    k (omega (arith, le))

unsafe_1 : UnsafeStep small_board (value_of off) rail_1_first 0 1 rail_1_ahead
unsafe_1 = record {
  there = lit< tt;
  bad = lowest (spans_of 2 (after (value_of off) rail_1_first 1)) (two _ (lit≤ tt, lit≤ tt) (lit≤ tt, lit≤ tt)) (lit≤ tt);
  before = λ j lt. absurd (omega (arith, lt));
}

pub first_step : Checked small_board (value_of off) rail_1_first (Err (Unsafe 0 1 rail_1_ahead))
first_step = (formed_1, (rests_off, (rests_on, unsafe_1)))

-- both at once
formed_2 : Formed 2 (value_of off) both_at_once
formed_2 k le = five (InForm 2 (value_of off) both_at_once)
    ((lit< tt, (0, refl)), λ _. lit< tt)
    ((lit< tt, (0, refl)), λ _. lit< tt)
    ((lit< tt, (0, 11400, refl)), λ _. lit< tt)
    ((lit< tt, (0, 1650, refl)), λ _. lit< tt)
    (two (λ i. IsStill (after (value_of off) both_at_once 4 i)) (11400, refl) (1650, refl), λ _. lit< tt)
    k (omega (arith, le))

unsafe_2 : UnsafeStep small_board (value_of off) both_at_once 1 1 rail_1_ahead
unsafe_2 = record {
  there = lit< tt;
  bad = lowest (spans_of 2 (after (value_of off) both_at_once 2)) (two _ (lit≤ tt, lit≤ tt) (lit≤ tt, lit≤ tt)) (lit≤ tt);
  before = one (λ j. Safe 2 small_board.units (after (value_of off) both_at_once (suc j))) (rail_0_moves []);
}

pub second_step : Checked small_board (value_of off) both_at_once (Err (Unsafe 1 1 rail_1_ahead))
second_step = (formed_2, (rests_off, (rests_on, unsafe_2)))

-- rail 0 first
formed_0 : Formed 2 (value_of off) rail_0_first
formed_0 k le = five (InForm 2 (value_of off) rail_0_first)
    ((lit< tt, (0, refl)), λ _. lit< tt)
    ((lit< tt, (0, 11400, refl)), λ _. lit< tt)
    ((lit< tt, (0, refl)), λ _. lit< tt)
    ((lit< tt, (0, 1650, refl)), λ _. lit< tt)
    (two (λ i. IsStill (after (value_of off) rail_0_first 4 i)) (11400, refl) (1650, refl), λ _. lit< tt)
    k (omega (arith, le))

past_on : (i : ℕ) → 2 ≤ i → value_of mix_on.values i ≡ 0
past_on zero le = absurd (omega (arith, le))
past_on (suc zero) le = absurd (omega (arith, le))
past_on (suc (suc i)) le =
    ⊎_elim
    (λ lt. get_or-replicate 22 i 0 0 lt)
    (λ far. get_or_past (replicate 22 0) i 0 far)
    (cases_lt i 22)

pub opened : Checked small_board (value_of off) rail_0_first (Ok mix_on)
opened = (
  record { formed = formed_0; first_rests = rests_off; last_rests = rests_on; safe = safe_0_1 },
  record { own = two (λ i. value_of mix_on.values i ≡ last_mix (value_of off) rail_0_first i) refl refl; past = past_on },
)

-- a rail that stands does not move
not_moving : (v o t : ℕ) → Still v ≡ Moving o t → ⊥
not_moving v o t e = let z : ◌≡◌ {A = ℕ} 0 1 = cc in omega (arith, z)

pub idle : Checked small_board (value_of off) idle_wait (Err (OutOfForm 0))
idle = record {
  within = lit≤ tt;
  bad = λ h. let m = h.0.1 in not_moving 0 m.0 m.1 m.2;
  first_bad = λ j lt. absurd (omega (arith, lt));
}

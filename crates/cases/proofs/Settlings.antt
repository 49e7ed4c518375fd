-- What settling answers on the small board. Assumes nothing.
use Rattle.std.proofs.Common.{◌≡◌, ℕ, zero, suc, ◌+◌, ◌<◌, ◌≤◌, List, replicate, Ok, Err, refl, sym, ap, subst, ⊎_elim, arith, lit<, lit≤}
use Rattle.std.proofs.lemmas.List.{get_or_past, get_or-replicate}
use Rattle.std.proofs.lemmas.Bool.{cases_lt}
use Rattle.faults.specs.declared.settle.SettleFault.TheVariants.{NoChoice}
use Rattle.platform.specs.Units.{Device, unit_at, rail_at, pin_bounds, mode_at, bounds_at, value_of, Within, Rests, InMode, AtRest, Resting}
use Rattle.settling.specs.Choices.{demand_at, Known, Allows, mode_of, InWindow, Fits, Hopeless}
use Rattle.settling.specs.Tolls.{cost, Least}
use Rattle.settling.specs.Narrowing.{Hold}
use Rattle.settling.specs.Settling.{Settles}
use Rattle.settling.specs.Sums.{draw_toll}
use Rattle.cases.specs.Board.{supply, regulator, load, small_board}
use Rattle.cases.specs.Demands.{wanted, all_on}
use Rattle.spans.specs.Cases.{from_to}
use Rattle.cases.proofs.Few.{one, two, three}
use Rattle.cases.proofs.Rests.{no_rest}

known : (low high : ℕ) → Known small_board.rails (wanted low high)
known low high = one (λ i. (demand_at (wanted low high) i).rail < 2) (lit< tt)

-- past 1950 the load is in no rest mode
load_out : (mix : List ℕ) → 1951 ≤ value_of mix 1 → (m : ℕ) → Rests load m → InMode load m mix → ⊥
load_out mix far m rests =
    three (λ m. Rests load m → InMode load m mix → ⊥)
    (λ _ h. omega (arith, far, (h 0 (lit< tt)).1))
    (λ _ h. omega (arith, far, (h 0 (lit< tt)).1))
    (λ rests _. no_rest rests.1)
    m rests.0 rests

hopeless : Hopeless small_board.units (wanted 1951 3465)
hopeless mix meets rests =
    let some = rests 2 (lit< tt) in
    load_out mix ((meets 1 (lit< tt)).1 0 (lit< tt) refl).0 some.0 some.1.0 some.1.1

pub one_too_high : Settles draw_toll small_board.rails small_board.units (wanted 1951 3465) (Err NoChoice)
one_too_high = (known 1951 3465, hopeless)

-- past the small board's rails
far_window : (r : ℕ) → suc (suc r) < 24 → bounds_at all_on.windows (suc (suc r)) ≡ from_to 0 65535
far_window r lt = get_or-replicate 22 r (from_to 0 65535) (from_to 0 0) (omega (arith, lt))

far_target : (r : ℕ) → suc (suc r) < 24 → value_of all_on.targets.values (suc (suc r)) ≡ 0
far_target r lt = get_or-replicate 22 r 0 0 (omega (arith, lt))

spare : (k : ℕ) → 3 ≤ k → mode_of all_on.modes k ≡ 0
spare zero le = absurd (omega (arith, le))
spare (suc zero) le = absurd (omega (arith, le))
spare (suc (suc zero)) le = absurd (omega (arith, le))
spare (suc (suc (suc k))) le =
    ⊎_elim
    (λ lt. get_or-replicate 21 k 0 0 lt)
    (λ far. get_or_past (replicate 21 0) k 0 far)
    (cases_lt k 21)

-- what pin p of a unit in mode 1 leaves v, where it is on rail r
abbrev Pin1 : Device → ℕ → ℕ → ℕ → Type 0
Pin1 u r v p = rail_at u p ≡ r → Within (pin_bounds u 1 p) v

abbrev Asked : ℕ → ℕ → ℕ → Type 0
Asked r v i = (demand_at (wanted 1950 3465) i).rail ≡ r → ((demand_at (wanted 1950 3465) i).low ≤ v) × (v ≤ (demand_at (wanted 1950 3465) i).high)

abbrev Unit1 : ℕ → ℕ → ℕ → Type 0
Unit1 r v k = Allows (unit_at small_board.units k) (mode_of all_on.modes k) r v

hold : Hold (InWindow small_board.units (wanted 1950 3465) all_on.modes) all_on.windows
hold zero lt v = (
  λ w.
      let low : 11400 ≤ v = w.0 in
      let high : v ≤ 12600 = w.1 in (
        (omega (arith, high), one (Asked 0 v) (λ (e : 1 ≡ 0). absurd (omega (arith, e)))),
        three (Unit1 0 v)
            (one (Pin1 supply 0 v) (λ _. w))
            (two (Pin1 regulator 0 v) (λ _. (omega (arith, low), omega (arith, high))) (λ (e : 1 ≡ 0). absurd (omega (arith, e))))
            (one (Pin1 load 0 v) (λ (e : 1 ≡ 0). absurd (omega (arith, e)))),
      ),
  λ h. h.1 0 (lit< tt) 0 (lit< tt) refl,
)
hold (suc zero) lt v = (
  λ w.
      let low : 1950 ≤ v = w.0 in
      let high : v ≤ 1950 = w.1 in (
        (omega (arith, high), one (Asked 1 v) (λ _. (low, omega (arith, high)))),
        three (Unit1 1 v)
            (one (Pin1 supply 1 v) (λ (e : 0 ≡ 1). absurd (omega (arith, e))))
            (two (Pin1 regulator 1 v) (λ (e : 0 ≡ 1). absurd (omega (arith, e))) (λ _. (omega (arith, low), omega (arith, high))))
            (one (Pin1 load 1 v) (λ _. (omega (arith, low), high))),
      ),
  λ h. ((h.0.1 0 (lit< tt) refl).0, (h.1 2 (lit< tt) 0 (lit< tt) refl).1),
)
hold (suc (suc r)) lt v = (
  λ w.
      let wide : Within (from_to 0 65535) v = subst (λ b. Within b v) (far_window r lt) w in (
        (wide.1, one (Asked (suc (suc r)) v) (λ (e : 1 ≡ suc (suc r)). absurd (omega (arith, e)))),
        three (Unit1 (suc (suc r)) v)
            (one (Pin1 supply (suc (suc r)) v) (λ (e : 0 ≡ suc (suc r)). absurd (omega (arith, e))))
            (two (Pin1 regulator (suc (suc r)) v) (λ (e : 0 ≡ suc (suc r)). absurd (omega (arith, e))) (λ (e : 1 ≡ suc (suc r)). absurd (omega (arith, e))))
            (one (Pin1 load (suc (suc r)) v) (λ (e : 1 ≡ suc (suc r)). absurd (omega (arith, e)))),
      ),
  λ h. subst (λ b. Within b v) (sym (far_window r lt)) (omega arith, h.0.0),
)

within : (r : ℕ) → r < 24 → Within (bounds_at all_on.windows r) (value_of all_on.targets.values r)
within zero lt = (lit≤ tt, lit≤ tt)
within (suc zero) lt = (lit≤ tt, lit≤ tt)
within (suc (suc r)) lt =
    subst (λ b. Within b (value_of all_on.targets.values (suc (suc r)))) (sym (far_window r lt))
    (subst (λ v. Within (from_to 0 65535) v) (sym (far_target r lt)) (lit≤ tt, lit≤ tt))

lows : (r : ℕ) → r < 24 → value_of all_on.targets.values r ≡ (bounds_at all_on.windows r).low
lows zero lt = refl
lows (suc zero) lt = refl
lows (suc (suc r)) lt = subst (λ v. v ≡ (bounds_at all_on.windows (suc (suc r))).low) (sym (far_target r lt)) (sym (ap (λ b. b.low) (far_window r lt)))

rests_1 : (k : ℕ) → k < 3 → Rests (unit_at small_board.units k) (mode_of all_on.modes k)
rests_1 = three (λ k. Rests (unit_at small_board.units k) (mode_of all_on.modes k)) (lit< tt, refl) (lit< tt, refl) (lit< tt, refl)

rests : Resting small_board.units all_on.targets.values
rests = three (λ k. AtRest (unit_at small_board.units k) all_on.targets.values)
    (1, ((lit< tt, refl), one _ (lit≤ tt, lit≤ tt)))
    (1, ((lit< tt, refl), two _ (lit≤ tt, lit≤ tt) (lit≤ tt, lit≤ tt)))
    (1, ((lit< tt, refl), one _ (lit≤ tt, lit≤ tt)))

inside : (r : ℕ) → r < 24 → InWindow small_board.units (wanted 1950 3465) all_on.modes r (value_of all_on.targets.values r)
inside r lt = (hold r lt (value_of all_on.targets.values r)).0 (within r lt)

-- where rail 1 is at 1950 or more, the load and the regulator rest in their modes 1 only; the supply does where rail 0 is at 5500 or more
load_1 : (v : ℕ) → 1950 ≤ v → (m : ℕ) → Rests load m → Allows load m 1 v → m ≡ 1
load_1 v up m rests =
    three (λ m. Rests load m → Allows load m 1 v → m ≡ 1)
    (λ _ h. absurd (omega (arith, up, (h 0 (lit< tt) refl).1)))
    (λ _ _. refl)
    (λ rests _. absurd (no_rest rests.1))
    m rests.0 rests

regulator_1 : (v : ℕ) → 1950 ≤ v → (m : ℕ) → Rests regulator m → Allows regulator m 1 v → m ≡ 1
regulator_1 v up m rests =
    three (λ m. Rests regulator m → Allows regulator m 1 v → m ≡ 1)
    (λ _ h. absurd (omega (arith, up, (h 1 (lit< tt) refl).1)))
    (λ _ _. refl)
    (λ rests _. absurd (no_rest rests.1))
    m rests.0 rests

supply_1 : (v : ℕ) → 5500 ≤ v → (m : ℕ) → Rests supply m → Allows supply m 0 v → m ≡ 1
supply_1 v up m rests =
    three (λ m. Rests supply m → Allows supply m 0 v → m ≡ 1)
    (λ _ h. absurd (omega (arith, up, (h 0 (lit< tt) refl).1)))
    (λ _ _. refl)
    (λ rests _. absurd (no_rest rests.1))
    m rests.0 rests

-- no other choice fits
module _ (other : List ℕ) (fits : Fits small_board.units (wanted 1950 3465) other) where
  load_on : mode_of other 2 ≡ 1
  load_on =
      let some = fits.meet 1 (lit< tt) in
      load_1 some.0 (some.1.0.1 0 (lit< tt) refl).0 (mode_of other 2) (fits.rest 2 (lit< tt)) (some.1.1 2 (lit< tt))

  regulator_on : mode_of other 1 ≡ 1
  regulator_on =
      let some = fits.meet 1 (lit< tt) in
      regulator_1 some.0 (some.1.0.1 0 (lit< tt) refl).0 (mode_of other 1) (fits.rest 1 (lit< tt)) (some.1.1 1 (lit< tt))

  supply_on : mode_of other 0 ≡ 1
  supply_on =
      let some = fits.meet 0 (lit< tt) in
      let regulated : Allows regulator 1 0 some.0 = subst (λ m. Allows regulator m 0 some.0) regulator_on (some.1.1 1 (lit< tt)) in
      supply_1 some.0 (regulated 0 (lit< tt) refl).0 (mode_of other 0) (fits.rest 0 (lit< tt)) (some.1.1 0 (lit< tt))

  modes_1 : (k : ℕ) → k < 3 → mode_of other k ≡ mode_of all_on.modes k
  modes_1 = three (λ k. mode_of other k ≡ mode_of all_on.modes k) supply_on regulator_on load_on

abbrev draw_of : Device → ℕ → ℕ
draw_of u m = (draw_toll.of (mode_at u m)).milliwatts

costs_as : (other : List ℕ) → mode_of other 0 ≡ 1 → mode_of other 1 ≡ 1 → mode_of other 2 ≡ 1 → (cost draw_toll small_board.units other).milliwatts ≡ 5900
costs_as other a b c =
    subst (λ m. 0 + draw_of supply m + draw_of regulator (mode_of other 1) + draw_of load (mode_of other 2) ≡ 5900) (sym a)
    (subst (λ m. 0 + draw_of supply 1 + draw_of regulator m + draw_of load (mode_of other 2) ≡ 5900) (sym b)
    (subst (λ m. 0 + draw_of supply 1 + draw_of regulator 1 + draw_of load m ≡ 5900) (sym c) refl))

least : Least draw_toll small_board.units (wanted 1950 3465) all_on.modes
least = record {
  fits = record { rest = rests_1; meet = λ r lt. (value_of all_on.targets.values r, inside r lt) };
  cheapest = λ other fits.
      let same = costs_as other (supply_on other fits) (regulator_on other fits) (load_on other fits) in
      omega (arith, same);
  first = λ other fits _ before.
      let same = modes_1 other fits before.0 before.1.0 in
      omega (arith, same, before.1.1.1);
}

pub highest : Settles draw_toll small_board.rails small_board.units (wanted 1950 3465) (Ok all_on)
highest = record {
  known = known 1950 3465;
  least = least;
  costs = refl;
  windows = hold;
  lows = lows;
  rests = rests;
  meets = λ r lt. (inside r lt).0;
  spare = spare;
  sized = (refl, refl, refl);
}

-- Which mixes of the small board rest. Assumes nothing.
use Rattle.std.proofs.Common.{◌≡◌, ℕ, refl, arith, lit<, lit≤}
use Rattle.sheets.specs.declared.rows.Kind.{Kind}
use Rattle.platform.specs.Units.{unit_at, Rests, InMode, AtRest, Resting}
use Rattle.platform.specs.Resting.{LowestUnrested}
use Rattle.cases.specs.Board.{supply, load, small_board}
use Rattle.cases.specs.Moves.{off, on, supply_between, load_between}
use Rattle.cases.proofs.Few.{one, two, three}

pub rests_off : Resting small_board.units off
rests_off = three (λ k. AtRest (unit_at small_board.units k) off)
    (0, ((lit< tt, refl), one _ (lit≤ tt, lit≤ tt)))
    (0, ((lit< tt, refl), two _ (lit≤ tt, lit≤ tt) (lit≤ tt, lit≤ tt)))
    (0, ((lit< tt, refl), one _ (lit≤ tt, lit≤ tt)))

pub rests_on : Resting small_board.units on
rests_on = three (λ k. AtRest (unit_at small_board.units k) on)
    (1, ((lit< tt, refl), one _ (lit≤ tt, lit≤ tt)))
    (1, ((lit< tt, refl), two _ (lit≤ tt, lit≤ tt) (lit≤ tt, lit≤ tt)))
    (1, ((lit< tt, refl), one _ (lit≤ tt, lit≤ tt)))

-- a mode with kind pass is no rest mode
pub no_rest : Kind.Pass ≡ Kind.Rest → ⊥
no_rest e = let z : ◌≡◌ {A = ℕ} 0 1 = cc in omega (arith, z)

pub supply_unrested : LowestUnrested small_board.units supply_between 0
supply_unrested = record {
  there = lit< tt;
  unrested = λ some.
      three (λ m. Rests supply m → InMode supply m supply_between → ⊥)
      (λ _ h. omega (arith, (h 0 (lit< tt)).1))
      (λ _ h. omega (arith, (h 0 (lit< tt)).0))
      (λ rests _. no_rest rests.1)
      some.0 some.1.0.0 some.1.0 some.1.1;
  lowest = λ k lt. absurd (omega (arith, lt));
}

pub load_unrested : LowestUnrested small_board.units load_between 2
load_unrested = record {
  there = lit< tt;
  unrested = λ some.
      three (λ m. Rests load m → InMode load m load_between → ⊥)
      (λ _ h. omega (arith, (h 0 (lit< tt)).1))
      (λ _ h. omega (arith, (h 0 (lit< tt)).0))
      (λ rests _. no_rest rests.1)
      some.0 some.1.0.0 some.1.0 some.1.1;
  lowest = two (λ k. AtRest (unit_at small_board.units k) load_between)
      (1, ((lit< tt, refl), one _ (lit≤ tt, lit≤ tt)))
      (1, ((lit< tt, refl), two _ (lit≤ tt, lit≤ tt) (lit≤ tt, lit≤ tt)));
}

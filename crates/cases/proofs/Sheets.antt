-- The rows of the small board's sheets make the small board. Assumes nothing.
use Rattle.std.proofs.Common.{◌≡◌, ◌<◌, Ok, refl, arith}
use Rattle.platform.specs.Units.{unit_at, rail_at}
use Rattle.platform.specs.Rules.{Apart, drivers}
use Rattle.platform.specs.Making.{Makes}
use Rattle.cases.specs.Board.{supply, regulator, load, small_board}
use Rattle.cases.specs.Sheets.{small_rows}
use Rattle.cases.proofs.Few.{one, two, three}

supply_apart : Apart supply
supply_apart p q h = omega (arith, h.0, h.1)

regulator_apart : Apart regulator
regulator_apart p q h =
    two (λ q. p < q → rail_at regulator p ≡ rail_at regulator q → ⊥)
    (λ lt e. omega (arith, lt))
    (λ lt e. one (λ p. rail_at regulator p ≡ 1 → ⊥) (λ (z : 0 ≡ 1). omega (arith, z)) p lt e)
    q h.1 h.0 h.2

load_apart : Apart load
load_apart p q h = omega (arith, h.0, h.1)

pub made : Makes small_rows (Ok small_board)
made = (
  refl,
  record {
    apart = three (λ k. Apart (unit_at small_board.units k)) supply_apart regulator_apart load_apart;
    driven = two (λ r. drivers r small_board.units ≡ 1) refl refl;
  },
)

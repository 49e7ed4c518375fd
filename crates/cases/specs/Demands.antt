-- Demands on the small board, and what settles one of them. Assumes nothing.
use Rattle.std.specs.Prelude.{ℕ, List, [], ◌∷◌, replicate}
use Rattle.sheets.specs.declared.rows.Demand.{Demand}
use Rattle.settling.specs.declared.cost.Draw.{Draw}
use Rattle.settling.specs.declared.answer.Settled.{Settled}
use Rattle.settling.specs.Sums.{of_draw}
use Rattle.spans.specs.Cases.{from_to}

-- the one demand, on rail 1
abbrev pub wanted : ℕ → ℕ → List Demand
wanted low high = record { rail = 1; low = low; high = high } ∷ []

-- every unit in its mode 1, with rail 1 as high as the load takes it
abbrev pub all_on : Settled Draw
all_on = record {
  modes = 1 ∷ 1 ∷ 1 ∷ replicate 21 0;
  windows = from_to 11400 12600 ∷ from_to 1950 1950 ∷ replicate 22 (from_to 0 65535);
  targets = record { values = 11400 ∷ 1950 ∷ replicate 22 0 };
  cost = of_draw 5900;
}

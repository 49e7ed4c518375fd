-- Which unit keeps a mix from resting. Assumes nothing.
use Rattle.std.specs.Prelude.{ℕ, ◌<◌, List, length}
use Rattle.platform.specs.Units.{Device, unit_at, AtRest}

-- u is the lowest unit that the mix puts in no rest mode
pub record LowestUnrested (units : List Device) (mix : List ℕ) (u : ℕ) : Type 0 where
  pub there : u < length units
  pub unrested : AtRest (unit_at units u) mix → ⊥
  pub lowest : (k : ℕ) → k < u → AtRest (unit_at units k) mix

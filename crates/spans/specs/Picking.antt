-- What is asked of the units that a test picks. Assumes nothing.
use Rattle.std.specs.Prelude.{ℕ, ◌<◌, ◌⊎◌, Bool, true, false, List, length, vec_items}
use Rattle.std.specs.List.{AllWithin, HoldsAt}
use Rattle.platform.specs.declared.parts.Bounds.{Bounds}
use Rattle.platform.specs.declared.unit.Unit.{Unit}
use Rattle.platform.specs.declared.platform.Platform.{Platform}
use Rattle.platform.specs.Devices.{device}
use Rattle.platform.specs.Making.{model_of}
use Rattle.spans.specs.Safety.{SafeFor}
use Rattle.spans.specs.Judging.{BadAt}

-- of the first n units each is one that the test does not pick, or the spans are safe for it
abbrev pub SafeBelow : (Unit → Bool → Type 0) → Platform → List Bounds → ℕ → Type 0
SafeBelow picks p spans n = AllWithin (λ u. picks u false ⊎ SafeFor p.rails spans (device u)) (vec_items p.units) 0 n

-- the spans are safe for every unit that the test picks
abbrev pub NonePicked : (Unit → Bool → Type 0) → Platform → List Bounds → Type 0
NonePicked picks p spans = SafeBelow picks p spans (length (vec_items p.units))

-- unit k is the lowest that the test picks for which the spans are not safe, and these are its first bad values
pub record LowestPicked (picks : Unit → Bool → Type 0) (p : Platform) (spans : List Bounds) (k : ℕ) (values : List ℕ) : Type 0 where
  pub there : k < length (vec_items p.units)
  pub picked : HoldsAt (λ u. picks u true) (vec_items p.units) k
  pub bad : BadAt (model_of p) spans k values
  pub lowest : SafeBelow picks p spans k

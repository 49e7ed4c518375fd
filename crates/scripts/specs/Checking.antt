-- What the check of a script says. Assumes nothing.
use Rattle.std.specs.Prelude.{◌≡◌, ℕ, suc, ◌<◌, ◌≤◌, List, map, length, Ok, Err, Result}
use Rattle.std.specs.List.{range_with_len}
use Rattle.platform.specs.declared.parts.Bounds.{Bounds}
use Rattle.platform.specs.declared.parts.Mix.{Mix}
use Rattle.platform.specs.Units.{value_of, Resting}
use Rattle.platform.specs.Describing.{Model}
use Rattle.platform.specs.Resting.{LowestUnrested}
use Rattle.spans.specs.Judging.{LowestBad}
use Rattle.openings.specs.declared.end.End.TheVariants.{First, Last}
use Rattle.histories.specs.declared.rail.Rail.{Rail}
use Rattle.histories.specs.declared.step.Step.{Step}
use Rattle.histories.specs.Rails.{after, last_mix, IsStill}
use Rattle.histories.specs.Spans.{span_of, mix_of, Safe}
use Rattle.openings.specs.Openings.{Formed, Misstep, Passes}
use Rattle.scripts.specs.declared.fault.ScriptFault.{ScriptFault}
use Rattle.scripts.specs.declared.fault.ScriptFault.TheVariants.{OutOfForm, Restless, Unsafe}

-- a fault's number
abbrev pub script_number : ScriptFault → ℕ
script_number (OutOfForm step) = 18
script_number (Restless end unit) = 12
script_number (Unsafe step unit values) = 19

-- each of the first n rails stands after the first k steps
abbrev pub AllStill : ℕ → (ℕ → ℕ) → List Step → ℕ → Type 0
AllStill n first script k = (i : ℕ) → i < n → IsStill (after first script k i)

-- the spans of the first n rails
abbrev pub spans_of : ℕ → (ℕ → Rail) → List Bounds
spans_of n rails = map (λ r. span_of (rails r)) (range_with_len 0 n)

-- step k is the first whose spans are not safe for every unit: u is the lowest for which they are not, and these are its first bad values
pub record UnsafeStep (m : Model) (first : ℕ → ℕ) (script : List Step) (k u : ℕ) (values : List ℕ) : Type 0 where
  pub there : k < length script
  pub bad : LowestBad m (spans_of m.rails (after first script (suc k))) u values
  pub before : (j : ℕ) → j < k → Safe m.rails m.units (after first script (suc j))

-- the values are the script's last mix on the first n rails, and 0 past them
pub record LastValues (n : ℕ) (first : ℕ → ℕ) (script : List Step) (values : List ℕ) : Type 0 where
  pub own : (i : ℕ) → i < n → value_of values i ≡ last_mix first script i
  pub past : (i : ℕ) → n ≤ i → value_of values i ≡ 0

-- the first mix rests
abbrev pub FirstRests : Model → (ℕ → ℕ) → Type 0
FirstRests m first = Resting m.units (mix_of m.rails first)

-- u is the lowest unit that does not rest at the first mix
abbrev pub FirstRestless : Model → (ℕ → ℕ) → ℕ → Type 0
FirstRestless m first u = LowestUnrested m.units (mix_of m.rails first) u

-- the script's last mix rests
abbrev pub LastRests : Model → (ℕ → ℕ) → List Step → Type 0
LastRests m first script = Resting m.units (mix_of m.rails (last_mix first script))

-- u is the lowest unit that does not rest at the script's last mix
abbrev pub LastRestless : Model → (ℕ → ℕ) → List Step → ℕ → Type 0
LastRestless m first script u = LowestUnrested m.units (mix_of m.rails (last_mix first script)) u

-- what each answer of the check says of a platform, a first mix and a script
abbrev pub Checked : Model → (ℕ → ℕ) → List Step → Result Mix ScriptFault → Type 0
Checked m first script (Ok last) = Passes m.rails m.units first script × LastValues m.rails first script last.values
Checked m first script (Err (OutOfForm k)) = Misstep m.rails first script k
Checked m first script (Err (Restless First u)) = Formed m.rails first script × FirstRestless m first u
Checked m first script (Err (Restless Last u)) = Formed m.rails first script × (FirstRests m first × LastRestless m first script u)
Checked m first script (Err (Unsafe k u values)) =
    Formed m.rails first script × (FirstRests m first × (LastRests m first script × UnsafeStep m first script k u values))

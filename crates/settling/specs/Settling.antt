-- What settling answers. Assumes nothing.
use Rattle.std.specs.Prelude.{◌≡◌, ℕ, ◌+◌, ◌<◌, ◌≤◌, List, length, Ok, Err, Result}
use Rattle.sheets.specs.declared.rows.Demand.{Demand}
use Rattle.platform.specs.Units.{Device, bounds_at, value_of, Resting}
use Rattle.faults.specs.declared.settle.SettleFault.{SettleFault}
use Rattle.faults.specs.declared.settle.SettleFault.TheVariants.{UnknownRail, NoChoice}
use Rattle.settling.specs.declared.answer.Settled.{Settled}
use Rattle.settling.specs.Choices.{demand_at, Known, mode_of, InWindow, Meets, Hopeless}
use Rattle.settling.specs.Tolls.{Toll, cost, Least}
use Rattle.settling.specs.Narrowing.{Hold}

-- i is the first place in the list whose rail the platform lacks
pub record UnknownAt (rails : ℕ) (demands : List Demand) (i : ℕ) : Type 0 where
  pub within : i < length demands
  pub unknown : rails ≤ (demand_at demands i).rail
  pub first : (j : ℕ) → j < i → (demand_at demands j).rail < rails

module _ {C : Type 0} (t : Toll C) (rails : ℕ) (units : List Device) (demands : List Demand) where
  -- the least choice, with its cost, its windows and their lows
  pub record Settlement (s : Settled C) : Type 0 where
    pub known : Known rails demands
    pub least : Least t units demands s.modes
    pub costs : s.cost ≡ cost t units s.modes
    pub windows : Hold (InWindow units demands s.modes) s.windows
    pub lows : (r : ℕ) → r < 24 → value_of s.targets.values r ≡ (bounds_at s.windows r).low
    pub rests : Resting units s.targets.values
    pub meets : Meets demands s.targets.values
    pub spare : (k : ℕ) → length units ≤ k → mode_of s.modes k ≡ 0
    pub sized : (length s.modes ≡ 24) × (length s.windows ≡ 24) × (length s.targets.values ≡ 24)

  -- this is the answer: the settlement, the line of the first unknown rail, or that there is no hope
  abbrev pub Settles : Result (Settled C) SettleFault → Type 0
  Settles (Ok s) = Settlement s
  Settles (Err (UnknownRail line)) = (i : ℕ) × ((line ≡ i + 1) × UnknownAt rails demands i)
  Settles (Err NoChoice) = Known rails demands × Hopeless units demands

-- only one answer is right
abbrev pub SettledOnce : {C : Type 0} → Toll C → Type 0
SettledOnce {C} t = (rails : ℕ) (units : List Device) (demands : List Demand) (a b : Result (Settled C) SettleFault) → Settles t rails units demands a → Settles t rails units demands b → a ≡ b

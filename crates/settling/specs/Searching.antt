-- What a search has found where it stands. Assumes nothing.
use Rattle.std.specs.Prelude.{◌≡◌, ℕ, ◌+◌, ◌<◌, ◌≤◌, ◌⊎◌, List, length, Some, None, Option, slice_set}
use Rattle.sheets.specs.declared.rows.Demand.{Demand}
use Rattle.platform.specs.Units.{Device, unit_at, mode_at, Rests}
use Rattle.settling.specs.declared.draft.Draft.{Draft}
use Rattle.settling.specs.Choices.{mode_of, InWindowTo, Fits, Same, Before}
use Rattle.settling.specs.Tolls.{Toll, cost_to, cost}
use Rattle.settling.specs.Narrowing.{Hold, Open, Still}

-- e is d with the unit at n in mode m
pub record Extends {C : Type 0} (t : Toll C) (u : Device) (n m : ℕ) (d e : Draft C) : Type 0 where
  pub modes : e.modes ≡ slice_set d.modes n m
  pub windows : Hold (Still u m d.windows) e.windows
  pub cost : e.cost ≡ t.plus d.cost (t.of (mode_at u m))
  pub sized : length e.windows ≡ 24

-- what is found costs no more than this
abbrev pub Reached : {C : Type 0} → Toll C → Option (Draft C) → C → Type 0
Reached t None spent = ⊥
Reached t (Some d) spent = t.AtMost d.cost spent

-- what is found comes before all choices that begin with the first n of these modes
abbrev pub Earlier : {C : Type 0} → ℕ → Option (Draft C) → List ℕ → Type 0
Earlier n None modes = Unit {0}
Earlier n (Some d) modes = Before n d.modes modes

-- what is found comes before all those, or is one of them
abbrev pub NotAfter : {C : Type 0} → ℕ → Option (Draft C) → List ℕ → Type 0
NotAfter n None modes = Unit {0}
NotAfter n (Some d) modes = Before n d.modes modes ⊎ Same n d.modes modes

module _ {C : Type 0} (t : Toll C) (units : List Device) (demands : List Demand) where
  -- the draft has a rest mode for each of the first n units, mode 0 for the others, their windows and their cost
  pub record Stands (n : ℕ) (d : Draft C) : Type 0 where
    pub rest : (k : ℕ) → k < n → Rests (unit_at units k) (mode_of d.modes k)
    pub spare : (k : ℕ) → n ≤ k → mode_of d.modes k ≡ 0
    pub windows : Hold (InWindowTo n units demands d.modes) d.windows
    pub cost : d.cost ≡ cost_to t units n d.modes
    pub sized : (length d.modes ≡ 24) × (length d.windows ≡ 24)

  -- what is found is a choice that fits
  abbrev pub Found : Option (Draft C) → Type 0
  Found None = Unit {0}
  Found (Some d) = Stands (length units) d × Open d.windows

  -- what is found is as good as the choice c: no dearer, and at the same cost not after it
  abbrev pub Covers : Option (Draft C) → List ℕ → Type 0
  Covers None c = ⊥
  Covers (Some d) c = t.AtMost d.cost (cost t units c) × (t.AtMost (cost t units c) d.cost → Before (length units) c d.modes → ⊥)

  -- r is the best of what was found before and of all choices that begin with the first n of these modes
  pub record Searched (n : ℕ) (modes : List ℕ) (before r : Option (Draft C)) : Type 0 where
    pub found : Found r
    pub place : NotAfter n r modes
    pub covers : (c : List ℕ) → Fits units demands c → Same n c modes → Covers r c
    pub keeps : (c : List ℕ) → Covers before c → Covers r c

  -- the same of those that go on with a mode below m
  pub record Tried (n m : ℕ) (modes : List ℕ) (before r : Option (Draft C)) : Type 0 where
    pub found : Found r
    pub place : Earlier (n + 1) r (slice_set modes n m)
    pub covers : (c : List ℕ) → Fits units demands c → Same n c modes → mode_of c n < m → Covers r c
    pub keeps : (c : List ℕ) → Covers before c → Covers r c

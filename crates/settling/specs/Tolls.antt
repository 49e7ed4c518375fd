-- What a cost is, what a choice costs, and which choice is the least. Assumes nothing.
use Rattle.std.specs.Prelude.{◌≡◌, ℕ, zero, suc, ◌+◌, ◌≤◌, ◌⊎◌, List, length}
use Rattle.sheets.specs.declared.rows.Demand.{Demand}
use Rattle.platform.specs.declared.parts.Mode.{Mode}
use Rattle.platform.specs.Units.{Device, unit_at, no_mode, mode_at}
use Rattle.settling.specs.Choices.{mode_of, Fits, Before}

-- how costs are reckoned; Made k c says that c is no more than k units come to
pub record Toll (C : Type 0) : Type 1 where
  pub nothing : C
  pub of : Mode → C
  pub plus : C → C → C
  pub AtMost : C → C → Type 0
  pub Made : ℕ → C → Type 0

-- the order is total, adding never lessens, a mode that is not there costs nothing, and Made goes with the sums
pub record Laws {C : Type 0} (t : Toll C) : Type 0 where
  pub reflexive : (a : C) → t.AtMost a a
  pub transitive : (a b c : C) → t.AtMost a b → t.AtMost b c → t.AtMost a c
  pub antisymmetric : (a b : C) → t.AtMost a b → t.AtMost b a → a ≡ b
  pub total : (a b : C) → t.AtMost a b ⊎ t.AtMost b a
  pub never_less : (a c : C) → t.AtMost a (t.plus a c)
  pub absent : t.of no_mode ≡ t.nothing
  pub made_nothing : t.Made 0 t.nothing
  pub made_of : (m : Mode) → m.draw ≤ 1000000 → t.Made 1 (t.of m)
  pub made_plus : (j k : ℕ) (a b : C) → t.Made j a → t.Made k b → t.Made (j + k) (t.plus a b)

-- whatever a mode is turned into is what it costs
abbrev pub Reckons : {C : Type 0} → Toll C → (Mode → C → Type 0) → Type 0
Reckons {C} t gives = (mode : Mode) (cost : C) → gives mode cost → cost ≡ t.of mode

-- together they are no more than 24 units come to, so that the sum can be held
abbrev pub Room : {C : Type 0} → Toll C → C → C → Type 0
Room t a b = (j : ℕ) × ((k : ℕ) × ((j + k ≤ 24) × (t.Made j a × t.Made k b)))

module _ {C : Type 0} (t : Toll C) (units : List Device) where
  -- nothing, and then the mode of each of the first n units
  abbrev pub cost_to : ℕ → List ℕ → C
  cost_to zero choice = t.nothing
  cost_to (suc n) choice = t.plus (cost_to n choice) (t.of (mode_at (unit_at units n) (mode_of choice n)))

  abbrev pub cost : List ℕ → C
  cost choice = cost_to (length units) choice

  -- the first, in order of the units' modes, of the cheapest choices that fit
  pub record Least (demands : List Demand) (choice : List ℕ) : Type 0 where
    pub fits : Fits units demands choice
    pub cheapest : (other : List ℕ) → Fits units demands other → t.AtMost (cost choice) (cost other)
    pub first : (other : List ℕ) → Fits units demands other → t.AtMost (cost other) (cost choice) → Before (length units) other choice → ⊥

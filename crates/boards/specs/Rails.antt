-- One rail: what a board means of it, and what a start and a poll make of it; and a row of rails. Assumes nothing.
use Rattle.std.specs.Prelude.{◌≡◌, ℕ, ◌<◌, ◌≤◌, Bool, true, false, ◌≢◌, List, slice_index_or}
use Rattle.boards.specs.Meaning.{Between}

-- a rail's value and target in mV, whether it is pending, and how often a poll of it may still be answered no
pub record RailMeaning : Type 0 where
  pub value : ℕ
  pub target : ℕ
  pub pending : Bool
  pub credit : ℕ

-- what holds of a rail at all times: at rest it is at its target, and its credit is not above the patience p
pub record RailStands (p : ℕ) (x : RailMeaning) : Type 0 where
  pub settled : x.pending ≡ false → x.value ≡ x.target
  pub patient : x.credit ≤ p

-- a start towards t
pub record RailStarted (p t : ℕ) (x y : RailMeaning) : Type 0 where
  pub value : y.value ≡ x.value
  pub target : y.target ≡ t
  pub pending : y.pending ≡ true
  pub credit : y.credit ≤ p

-- a poll of any rail of the board: this one stays between its old value and its target
pub record RailMoved (x y : RailMeaning) : Type 0 where
  pub value : Between x.value x.target y.value
  pub target : y.target ≡ x.target
  pub credit : y.credit ≤ x.credit

-- a poll of another rail: pending or not, it stays so
pub record RailPassed (x y : RailMeaning) : Type 0 where
  pub moved : RailMoved x y
  pub pending : y.pending ≡ x.pending

-- what the answer says of the polled rail: yes, it is at its target and no longer pending; no, it was pending and had a credit, which falls
abbrev pub RailTold : Bool → RailMeaning → RailMeaning → Type 0
RailTold true x y = (y.value ≡ y.target) × (y.pending ≡ false)
RailTold false x y = (x.pending ≡ true) × (y.credit < x.credit)

-- a poll of this rail, and its answer
pub record RailPolled (answer : Bool) (x y : RailMeaning) : Type 0 where
  pub moved : RailMoved x y
  pub told : RailTold answer x y

-- the row of rail r changes in one way, that of every other of the first n rails in another
pub record Changed {Row : Type 0} (blank : Row) (n r : ℕ) (here there : Row → Row → Type 0) (xs ys : List Row) : Type 0 where
  pub rail : here (slice_index_or xs r blank) (slice_index_or ys r blank)
  pub others : (i : ℕ) → i < n → i ≢ r → there (slice_index_or xs i blank) (slice_index_or ys i blank)

-- nothing changes
abbrev pub Same : {Row : Type 0} → Row → Row → Type 0
Same x y = y ≡ x

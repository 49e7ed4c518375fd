-- How the table is filled and an order is read back. Assumes nothing.
use Rattle.std.specs.Prelude.{◌≡◌, ℕ, ◌+◌, ◌^◌, ◌<◌, ◌≤◌, ◌⊎◌, List, length, slice_index, slice_set}
use Rattle.platform.specs.Units.{Device}
use Rattle.histories.specs.declared.rail.Rail.{Rail}
use Rattle.histories.specs.declared.rail.Rail.TheVariants.{Still}
use Rattle.platform.specs.Making.{model_of}
use Rattle.ordering.specs.declared.change.Change.{Change}
use Rattle.ordering.specs.Sets.{Mixes, count, place}
use Rattle.ordering.specs.Steps.{moved_mix, Next, Movable}
use Rattle.ordering.specs.Answers.{mixes_of}

-- the mixes of a change
abbrev pub mixes : Change → Mixes
mixes c = mixes_of (model_of c.platform.now) c.first.now.values c.last.now.values

-- the units that a change is to be safe for
abbrev pub units_of : Change → List Device
units_of c = (model_of c.platform.now).units

-- the rails stand where those of set s have moved
abbrev pub standing : Mixes → ℕ → ℕ → Rail
standing x s i = Still (moved_mix x s i)

-- the rails' bits
abbrev pub Placed : Mixes → List ℕ → Type 0
Placed x places = (r : ℕ) → r < 24 → slice_index places r ≡ place x r

-- what trying rail r from set s makes of the table
abbrev pub Tried : List Device → Mixes → ℕ → ℕ → List ℕ → List ℕ → Type 0
Tried units x s r old table = (Next units x s r × (table ≡ slice_set old (s + 2 ^ place x r) 1)) ⊎ ((table ≡ old) × (Next units x s r → slice_index old (s + 2 ^ place x r) ≡ 1))

-- all rails were tried from the sets below s, and from s those below r
pub record Filled (units : List Device) (x : Mixes) (table : List ℕ) (s r : ℕ) : Type 0 where
  pub long : 2 ^ count x ≤ length table
  pub bytes : (i : ℕ) → i < 2 ^ count x → (slice_index table i ≡ 0) ⊎ (slice_index table i ≡ 1)
  pub start : slice_index table 0 ≡ 1
  pub sound : (i : ℕ) → i < 2 ^ count x → slice_index table i ≡ 1 → Movable units x i
  pub pushed : (i q : ℕ) → (i < s) ⊎ ((i ≡ s) × (q < r)) → slice_index table i ≡ 1 → Next units x i q → slice_index table (i + 2 ^ place x q) ≡ 1

-- the bytes past those of the sets are as they were
abbrev pub Later : Mixes → List ℕ → List ℕ → Type 0
Later x old table = (i : ℕ) → 2 ^ count x ≤ i → slice_index table i ≡ slice_index old i

-- a table that has 1 at exactly the sets that can be built up
pub record Exact (units : List Device) (x : Mixes) (table : List ℕ) : Type 0 where
  pub long : 2 ^ count x ≤ length table
  pub sound : (i : ℕ) → i < 2 ^ count x → slice_index table i ≡ 1 → Movable units x i
  pub whole : (i : ℕ) → Movable units x i → slice_index table i ≡ 1

-- rail r can be the last to move of set s, after those of set p
pub record Last (units : List Device) (x : Mixes) (table : List ℕ) (s r p : ℕ) : Type 0 where
  pub is : p + 2 ^ place x r ≡ s
  pub one : slice_index table p ≡ 1
  pub next : Next units x p r

-- rail r can be the last to move of set s
abbrev pub IsLast : List Device → Mixes → List ℕ → ℕ → ℕ → Type 0
IsLast units x table s r = (p : ℕ) × Last units x table s r p

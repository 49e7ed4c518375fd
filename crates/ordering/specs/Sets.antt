-- Sets of changed rails by number, which of them can be moved first, and a table of all. Assumes nothing.
use Rattle.std.specs.Prelude.{◌≡◌, ℕ, zero, suc, ◌+◌, ◌/◌, ◌%◌, ◌^◌, ◌<◌, ◌≤◌, cond, ◌≢◌, ◌⊎◌, List, ◌==◌, slice_index}
use Rattle.platform.specs.Units.{Device}
use Rattle.openings.specs.Openings.{SafeScript}
use Rattle.openings.specs.Orders.{Among, Distinct, Changed, singly}

-- how many of the rails below r change: where rail r changes, it is changed rail number `rank r`
abbrev pub rank : (ℕ → ℕ) → (ℕ → ℕ) → ℕ → ℕ
rank first last zero = 0
rank first last (suc r) = rank first last r + cond (first r == last r) 0 1

-- bit j of a set's number
abbrev pub bit : ℕ → ℕ → ℕ
bit s j = s / 2 ^ j % 2

-- a first and a last mix of so many rails
pub record Mixes : Type 0 where
  pub rails : ℕ
  pub first : ℕ → ℕ
  pub last : ℕ → ℕ

-- how many rails change
abbrev pub count : Mixes → ℕ
count x = rank x.first x.last x.rails

-- the bit that stands for a rail
abbrev pub place : Mixes → ℕ → ℕ
place x r = rank x.first x.last r

-- the rail changes
abbrev pub Changes : Mixes → ℕ → Type 0
Changes x r = (r < x.rails) × (x.first r ≢ x.last r)

-- the rail is one of set s
abbrev pub InSet : Mixes → ℕ → ℕ → Type 0
InSet x s r = Changes x r × (bit s (place x r) ≡ 1)

-- the order has each of the set's rails once, and no other
pub record Lists (x : Mixes) (s : ℕ) (order : List ℕ) : Type 0 where
  pub once : Distinct order
  pub only : (r : ℕ) → Among r order → InSet x s r
  pub every : (r : ℕ) → InSet x s r → Among r order

-- the set's rails can be moved singly, in some order whose spans are safe after each step
pub record CanMove (units : List Device) (x : Mixes) (s : ℕ) : Type 0 where
  pub order : List ℕ
  pub lists : Lists x s order
  pub safe : SafeScript x.rails units x.first (singly x.last order)

-- a byte tells whether something holds: 1 if so, else 0
abbrev pub Tells : ℕ → Type 0 → Type 0
Tells byte P = ((byte ≡ 1) × P) ⊎ ((byte ≡ 0) × (P → ⊥))

-- a finished table: the first bytes tell of each set whether it can be moved first, the later ones are as they were
pub record Finished (units : List Device) (x : Mixes) (old table : List ℕ) : Type 0 where
  pub told : (s : ℕ) → s < 2 ^ count x → Tells (slice_index table s) (CanMove units x s)
  pub later : (s : ℕ) → 2 ^ count x ≤ s → slice_index table s ≡ slice_index old s

-- a safe order of all changed rails
pub record SafeOrder (units : List Device) (x : Mixes) (order : List ℕ) : Type 0 where
  pub changed : Changed x.rails x.first x.last order
  pub safe : SafeScript x.rails units x.first (singly x.last order)

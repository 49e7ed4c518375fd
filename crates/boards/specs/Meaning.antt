-- A board's meaning, and what a start and a poll make of it. Assumes nothing.
use Rattle.std.specs.Prelude.{◌≡◌, ℕ, ◌<◌, ◌≤◌, min, max, Bool, true, false, ◌≢◌}

-- each rail's value and target in mV, whether it is pending, and how often a poll of it may still be answered no
pub record Meaning : Type 0 where
  pub value : ℕ → ℕ
  pub target : ℕ → ℕ
  pub pending : ℕ → Bool
  pub credit : ℕ → ℕ

-- the meaning of a board b, by what its make gives
abbrev pub meant : {B : Type 0} → (B → ℕ → ℕ) → (B → ℕ → ℕ) → (B → ℕ → Bool) → (B → ℕ → ℕ) → B → Meaning
meant value target pending credit b = record { value = value b; target = target b; pending = pending b; credit = credit b }

-- x lies between a and b, both included
abbrev pub Between : ℕ → ℕ → ℕ → Type 0
Between a b x = (min a b ≤ x) × (x ≤ max a b)

-- what holds at all times of a board with n rails and patience p: each rest is at its target, and no credit is above the patience
pub record Stands (n p : ℕ) (b : Meaning) : Type 0 where
  pub settled : (i : ℕ) → i < n → b.pending i ≡ false → b.value i ≡ b.target i
  pub patient : (i : ℕ) → i < n → b.credit i ≤ p

-- a start of rail r towards t: no value changes, and of the other rails nothing
pub record Started (n p : ℕ) (b : Meaning) (r t : ℕ) (b' : Meaning) : Type 0 where
  pub value : (i : ℕ) → i < n → b'.value i ≡ b.value i
  pub target : b'.target r ≡ t
  pub pending : b'.pending r ≡ true
  pub credit : b'.credit r ≤ p
  pub others : (i : ℕ) → i < n → i ≢ r → (b'.target i ≡ b.target i) × (b'.pending i ≡ b.pending i) × (b'.credit i ≡ b.credit i)

-- what the answer to a poll says of the polled rail: yes, it is at its target and no longer pending; no, it was pending and had a credit, which falls
abbrev pub Told : Bool → Meaning → ℕ → Meaning → Type 0
Told true b r b' = (b'.value r ≡ b'.target r) × (b'.pending r ≡ false)
Told false b r b' = (b.pending r ≡ true) × (b'.credit r < b.credit r)

-- a poll of rail r and its answer: each rail stays between its old value and its target
pub record Polled (n : ℕ) (b : Meaning) (r : ℕ) (answer : Bool) (b' : Meaning) : Type 0 where
  pub value : (i : ℕ) → i < n → Between (b.value i) (b.target i) (b'.value i)
  pub target : (i : ℕ) → i < n → b'.target i ≡ b.target i
  pub credit : (i : ℕ) → i < n → b'.credit i ≤ b.credit i
  pub others : (i : ℕ) → i < n → i ≢ r → b'.pending i ≡ b.pending i
  pub told : Told answer b r b'

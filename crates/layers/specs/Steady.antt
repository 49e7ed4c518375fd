-- The steady layer: what it makes of the board below, its making, and what a start and a poll do. Assumes nothing.
use Rattle.std.specs.Prelude.{◌≡◌, ℕ, ◌+◌, ◌-◌, ◌<◌, min, Bool, true, false, cond, ◌&&◌, ◌||◌, List, nat_le, nat_lt, slice_index}
use Rattle.layers.specs.declared.steady.Steady.{Steady}
use Rattle.boards.specs.Rails.{Changed, Same}

-- how many yes answers of rail i have run, up to those needed
abbrev pub run_at : List ℕ → ℕ → ℕ
run_at run i = slice_index run i

-- a rail is pending while it is so below, and until enough answers have run
abbrev pub pendings : {B : Type 0} → (B → ℕ → Bool) → Steady B → ℕ → Bool
pendings pending s i = pending s.below i || nat_lt (run_at s.run i) s.need

-- how often a poll of the rail may still be answered no: as often as below, and then while too few yes answers have run
abbrev pub credits : {B : Type 0} → (B → ℕ → Bool) → (B → ℕ → ℕ) → Steady B → ℕ → ℕ
credits pending credit s i = cond (pending s.below i) (credit s.below i + (s.need - 1)) (s.need - 1 - run_at s.run i)

-- of the first n rails none has run where the rail is pending below, and all that are needed on any other
abbrev pub Fresh : ℕ → (ℕ → Bool) → ℕ → List ℕ → Type 0
Fresh n pending need run = (i : ℕ) → i < n → run_at run i ≡ cond (pending i) 0 need

-- a layer built over a board
pub record Built {B : Type 0} (rails : B → ℕ) (pending : B → ℕ → Bool) (b : B) (k : ℕ) (s : Steady B) : Type 0 where
  pub below : s.below ≡ b
  pub need : s.need ≡ k
  pub run : Fresh (rails b) (pending b) k s.run

-- a start: the count begins anew
abbrev pub Anew : ℕ → ℕ → Type 0
Anew run run' = run' ≡ 0

-- the yes answers that run after one more answer of the board below
abbrev pub run_after : ℕ → Bool → ℕ → ℕ
run_after k true run = min k (run + 1)
run_after k false run = 0

-- an answer of the board below is counted; the layer's own is yes exactly when that one is and enough have run
pub record Counted (k : ℕ) (said answer : Bool) (run run' : ℕ) : Type 0 where
  pub count : run' ≡ run_after k said run
  pub told : answer ≡ (said && nat_le k (run + 1))

-- a start of rail r towards t: one start below
pub record SteadyStarted {B : Type 0} (starts : B → ℕ → ℕ → B → Type 0) (s : Steady B) (r t : ℕ) (s' : Steady B) : Type 0 where
  pub below : starts s.below r t s'.below
  pub need : s'.need ≡ s.need
  pub run : Changed 0 24 r Anew Same s.run s'.run

-- a poll of rail r: one poll below, and its answer counted
pub record SteadyPolled {B : Type 0} (polls : B → ℕ → Bool → B → Type 0) (s : Steady B) (r : ℕ) (answer : Bool) (s' : Steady B) : Type 0 where
  pub said : Bool
  pub below : polls s.below r said s'.below
  pub need : s'.need ≡ s.need
  pub run : Changed 0 24 r (Counted s.need said answer) Same s.run s'.run

-- Calls on a board, one after another. Assumes nothing.
use Rattle.std.specs.Prelude.{◌≡◌, ℕ, Bool, cond, ◌≢◌, List, [], ◌∷◌, ◌==◌}

-- a poll that was made, and its answer
pub record Ask : Type 0 where
  pub rail : ℕ
  pub answer : Bool

abbrev pub rail_of : Ask → ℕ
rail_of ask = ask.rail

-- calls that lead from one board to another without a start of rail r; the list has the polls among them, the last first
pub data Since {B : Type 0} (starts : B → ℕ → ℕ → B → Type 0) (polls : B → ℕ → Bool → B → Type 0) (r : ℕ) : B → List Ask → B → Type 0 where
  none : {b : B} → Since starts polls r b [] b
  polled : {b b' b'' : B} {asks : List Ask} {ask : Ask} → Since starts polls r b asks b' → polls b' ask.rail ask.answer b'' → Since starts polls r b (ask ∷ asks) b''
  sent : {b b' b'' : B} {asks : List Ask} {i t : ℕ} → Since starts polls r b asks b' → r ≢ i → starts b' i t b'' → Since starts polls r b asks b''

-- the answers of rail r, the last first
abbrev pub answers : ℕ → List Ask → List Bool
answers r [] = []
answers r (ask ∷ asks) = cond (ask.rail == r) (ask.answer ∷ answers r asks) (answers r asks)

-- polls of rail r from b on, one after another, have these answers in turn
abbrev pub Gives : {B : Type 0} → (B → ℕ → Bool → B → Type 0) → ℕ → B → List Bool → Type 0
Gives polls r b [] = Unit {0}
Gives {B} polls r b (a ∷ more) = (answer : Bool) (b' : B) → polls b r answer b' → (answer ≡ a) × Gives polls r b' more

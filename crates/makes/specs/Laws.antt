-- What each make answers to the next poll of a rail, after its start and any calls since. Assumes nothing.
use Rattle.std.specs.Prelude.{◌≡◌, ℕ, ◌+◌, ◌*◌, ◌<◌, ◌≤◌, Bool, true, cond, List, ◌∷◌, map, length, take, replicate, Decides, nat_le}
use Rattle.layers.specs.declared.steady.Steady.{Steady}
use Rattle.boards.specs.Ramp.{RampBench, apart, towards, rates, RampStarted, RampPolled}
use Rattle.boards.specs.Ramp.{values as ramp_values}
use Rattle.boards.specs.Relay.{RelayBoard, delays, RelayStarted, RelayPolled}
use Rattle.boards.specs.Relay.{values as relay_values}
use Rattle.layers.specs.Steady.{SteadyStarted, SteadyPolled}
use Rattle.makes.specs.Calls.{Ask, rail_of, Since, answers}

-- a ramp has gone its rate for each poll of the bench since the start, of whatever rail; the answer is yes exactly when that is the whole way
abbrev pub RampArrives : Type 0
RampArrives =
    (b b' b'' b''' : RampBench) (r t : ℕ) (asks : List Ask) (answer : Bool)
    → r < b.count
    → RampStarted b r t b'
    → Since RampStarted RampPolled r b' asks b''
    → RampPolled b'' r answer b'''
    → (ramp_values b''' r ≡ towards (ramp_values b r) t ((length asks + 1) * rates b r))
    × (answer ≡ nat_le (apart (ramp_values b r) t) ((length asks + 1) * rates b r))

-- a relay answers no as often as its delay says, and stays; then it answers yes, at its target
abbrev pub RelayWaits : Type 0
RelayWaits =
    (b b' b'' b''' : RelayBoard) (r t : ℕ) (asks : List Ask) (answer : Bool)
    → r < b.count
    → RelayStarted b r t b'
    → Since RelayStarted RelayPolled r b' asks b''
    → RelayPolled b'' r answer b'''
    → (answer ≡ nat_le (delays b r) (length (answers r asks)))
    × (relay_values b''' r ≡ cond answer t (relay_values b r))

-- what a layer did to the board below: one poll for each of its own, the last of rail r; its answer is yes exactly when the last k answers of r were
pub record Runs {B : Type 0} (starts : B → ℕ → ℕ → B → Type 0) (polls : B → ℕ → Bool → B → Type 0) (k r : ℕ) (b : B) (asks : List Ask) (answer : Bool) (b' : B) : Type 0 where
  pub below : List Ask
  pub made : Since starts polls r b below b'
  pub rails : map rail_of below ≡ r ∷ map rail_of asks
  pub running : Decides answer (take k (answers r below) ≡ replicate k true)

-- a steady layer counts only what the board below answered since the rail's start
abbrev pub SteadyRuns : {B : Type 0} → (B → ℕ → ℕ → B → Type 0) → (B → ℕ → Bool → B → Type 0) → Type 0
SteadyRuns {B} starts polls =
    (s s' s'' s''' : Steady B) (r t : ℕ) (asks : List Ask) (answer : Bool)
    → 1 ≤ s.need
    → r < 24
    → SteadyStarted starts s r t s'
    → Since (SteadyStarted starts) (SteadyPolled polls) r s' asks s''
    → SteadyPolled polls s'' r answer s'''
    → Runs starts polls s.need r s'.below asks answer s'''.below

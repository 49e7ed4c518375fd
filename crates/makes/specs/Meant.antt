-- What the definitions of a make say is what a board of it means and does. Assumes nothing.
use Rattle.std.specs.Prelude.{◌≡◌, ℕ, Bool, ◌↔◌}
use Rattle.boards.specs.declared.meaning.Board.{Ghosts}
use Rattle.boards.specs.Ramp.{RampBench, RampStarted, RampPolled}
use Rattle.boards.specs.Ramp.{values as ramp_values, targets as ramp_targets, pendings as ramp_pendings, credits as ramp_credits}
use Rattle.boards.specs.Relay.{RelayBoard, RelayStarted, RelayPolled}
use Rattle.boards.specs.Relay.{values as relay_values, targets as relay_targets, pendings as relay_pendings, lefts}

pub record Means {B : Type 0} (make : Ghosts B) (values targets : B → ℕ → ℕ) (pendings : B → ℕ → Bool) (credits : B → ℕ → ℕ) (started : B → ℕ → ℕ → B → Type 0) (polled : B → ℕ → Bool → B → Type 0) : Type 0 where
  pub value : (b : B) (i : ℕ) → make.value b i ≡ values b i
  pub target : (b : B) (i : ℕ) → make.target b i ≡ targets b i
  pub pending : (b : B) (i : ℕ) → make.pending b i ≡ pendings b i
  pub credit : (b : B) (i : ℕ) → make.credit b i ≡ credits b i
  pub starts : (b b' : B) (r t : ℕ) → make.starts b r t b' ↔ started b r t b'
  pub polls : (b b' : B) (r : ℕ) (answer : Bool) → make.polls b r answer b' ↔ polled b r answer b'

abbrev pub RampMeans : Ghosts RampBench → Type 0
RampMeans make = Means make ramp_values ramp_targets ramp_pendings ramp_credits RampStarted RampPolled

abbrev pub RelayMeans : Ghosts RelayBoard → Type 0
RelayMeans make = Means make relay_values relay_targets relay_pendings lefts RelayStarted RelayPolled

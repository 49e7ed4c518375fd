-- Worked cases: the answers of a rail's polls right after its start. Assumes nothing.
use Rattle.std.specs.Prelude.{◌≡◌, ℕ, Bool, true, false, List, [], ◌∷◌}
use Rattle.layers.specs.declared.steady.Steady.{Steady}
use Rattle.boards.specs.Ramp.{RampBench, values, rates, RampStarted, RampPolled}
use Rattle.boards.specs.Relay.{RelayBoard, delays, RelayStarted, RelayPolled}
use Rattle.layers.specs.Steady.{SteadyStarted, SteadyPolled}
use Rattle.makes.specs.Calls.{Gives}

-- a ramp of d mV from v to t has these answers in turn
abbrev pub RampAnswers : ℕ → ℕ → ℕ → List Bool → Type 0
RampAnswers d v t row =
    (b b' : RampBench) (r : ℕ)
    → rates b r ≡ d
    → values b r ≡ v
    → RampStarted b r t b'
    → Gives RampPolled r b' row

-- a layer that needs k yes answers, over a relay with the delay d, has these answers in turn
abbrev pub SteadyAnswers : ℕ → ℕ → List Bool → Type 0
SteadyAnswers k d row =
    (s s' : Steady RelayBoard) (r t : ℕ)
    → s.need ≡ k
    → delays s.below r ≡ d
    → SteadyStarted RelayStarted s r t s'
    → Gives (SteadyPolled RelayPolled) r s' row

-- 500 mV a poll from 0 to 1650 mV take four polls
abbrev pub FourPolls : Type 0
FourPolls = RampAnswers 500 0 1650 (false ∷ false ∷ false ∷ true ∷ [])

-- three yes answers needed and no delay below: no, no, yes
abbrev pub ThirdYes : Type 0
ThirdYes = SteadyAnswers 3 0 (false ∷ false ∷ true ∷ [])

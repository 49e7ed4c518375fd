-- The small board: a supply on rail 0, a regulator from rail 0 to rail 1, a load on rail 1. Assumes nothing.
use Rattle.std.specs.Prelude.{ℕ, List, [], ◌∷◌}
use Rattle.sheets.specs.declared.rows.Kind.{Kind}
use Rattle.sheets.specs.declared.rows.Way.{Way}
use Rattle.platform.specs.declared.parts.Bounds.{Bounds}
use Rattle.platform.specs.declared.parts.Pin.{Pin}
use Rattle.platform.specs.declared.parts.Mode.{Mode}
use Rattle.platform.specs.Units.{Device}
use Rattle.platform.specs.Describing.{Model, four}
use Rattle.spans.specs.Cases.{from_to}

abbrev pub pin_on : ℕ → Way → Pin
pin_on r way = record { rail = r; way = way }

-- a mode with bounds for each pin of its unit
abbrev pub mode_of : Kind → ℕ → ℕ → List Bounds → Mode
mode_of kind draw heat bounds = record { kind = kind; draw = draw; heat = heat; bounds = four bounds }

abbrev pub supply : Device
supply = record {
  pins = pin_on 0 Way.Drives ∷ [];
  modes = mode_of Kind.Rest 200 0 (from_to 0 0 ∷ []) ∷ mode_of Kind.Rest 3000 2 (from_to 11400 12600 ∷ []) ∷ mode_of Kind.Pass 0 0 (from_to 0 12600 ∷ []) ∷ [];
}

abbrev pub regulator : Device
regulator = record {
  pins = pin_on 0 Way.Loads ∷ pin_on 1 Way.Drives ∷ [];
  modes = mode_of Kind.Rest 10 0 (from_to 0 14000 ∷ from_to 0 0 ∷ []) ∷ mode_of Kind.Rest 400 1 (from_to 5500 14000 ∷ from_to 500 5250 ∷ []) ∷ mode_of Kind.Pass 0 0 (from_to 5500 14000 ∷ from_to 0 5250 ∷ []) ∷ [];
}

abbrev pub load : Device
load = record {
  pins = pin_on 1 Way.Loads ∷ [];
  modes = mode_of Kind.Rest 0 0 (from_to 0 0 ∷ []) ∷ mode_of Kind.Rest 2500 3 (from_to 1650 1950 ∷ []) ∷ mode_of Kind.Pass 0 0 (from_to 0 1950 ∷ []) ∷ [];
}

abbrev pub small_board : Model
small_board = record { rails = 2; units = supply ∷ regulator ∷ load ∷ [] }

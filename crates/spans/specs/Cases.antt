-- A unit for worked cases, with one pin and two modes. Assumes nothing.
use Rattle.std.specs.Prelude.{ℕ, [], ◌∷◌}
use Rattle.sheets.specs.declared.rows.Kind.{Kind}
use Rattle.platform.specs.declared.parts.Bounds.{Bounds}
use Rattle.platform.specs.declared.parts.Mode.{Mode}
use Rattle.platform.specs.Units.{Device, no_pin}

abbrev pub from_to : ℕ → ℕ → Bounds
from_to low high = record { low = low; high = high }

-- a mode with these bounds at its one pin
abbrev pub mode_with : Bounds → Mode
mode_with b = record { kind = Kind.Rest; draw = 0; heat = 0; bounds = b ∷ [] }

-- its pin is on rail 0
abbrev pub two_modes : Bounds → Bounds → Device
two_modes one other = record { pins = no_pin ∷ []; modes = mode_with one ∷ mode_with other ∷ [] }

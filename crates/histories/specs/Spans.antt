-- The spans of rails that stand or move, and when they are safe for every unit. Assumes nothing.
use Rattle.std.specs.Prelude.{◌≡◌, ℕ, ◌<◌, min, max, List, map, length}
use Rattle.std.specs.List.{range_with_len}
use Rattle.platform.specs.declared.parts.Bounds.{Bounds}
use Rattle.platform.specs.Units.{Device, unit_at, bounds_at, value_of, Within}
use Rattle.platform.specs.Rules.{Each}
use Rattle.spans.specs.Safety.{InSomeMode, SafeFor}
use Rattle.boards.specs.Meaning.{Between}
use Rattle.histories.specs.declared.rail.Rail.{Rail}
use Rattle.histories.specs.declared.rail.Rail.TheVariants.{Still, Moving}

-- the values that a rail may have: its own where it stands, all from one end to the other where it moves
abbrev pub InSpan : Rail → ℕ → Type 0
InSpan (Still v) x = x ≡ v
InSpan (Moving o t) x = Between o t x

-- each of the first n rails has a value in its span
abbrev pub InSpans : ℕ → (ℕ → Rail) → (ℕ → ℕ) → Type 0
InSpans n rails values = (r : ℕ) → r < n → InSpan (rails r) (values r)

-- the first n values as a mix
abbrev pub mix_of : ℕ → (ℕ → ℕ) → List ℕ
mix_of n values = map values (range_with_len 0 n)

-- the mix puts every unit in some mode
abbrev pub InModes : List Device → List ℕ → Type 0
InModes units mix = (k : ℕ) → k < length units → InSomeMode (unit_at units k) mix

-- whichever mix the rails' spans allow, every unit is in some mode
abbrev pub Safe : ℕ → List Device → (ℕ → Rail) → Type 0
Safe n units rails = (mix : List ℕ) → InSpans n rails (value_of mix) → InModes units mix

-- a rail's span as bounds: both its own value where it stands, its lower and its higher end where it moves
abbrev pub span_of : Rail → Bounds
span_of (Still v) = record { low = v; high = v }
span_of (Moving o t) = record { low = min o t; high = max o t }

-- the spans are those of the first n rails
abbrev pub SpansOf : ℕ → (ℕ → Rail) → List Bounds → Type 0
SpansOf n rails spans = (r : ℕ) → r < n → bounds_at spans r ≡ span_of (rails r)

-- a rail's span has exactly the values that the rail may have
abbrev pub SpanExact : Type 0
SpanExact = (rail : Rail) (v : ℕ) → (Within (span_of rail) v → InSpan rail v) × (InSpan rail v → Within (span_of rail) v)

-- the spans of the rails are safe for each unit exactly when the rails are safe
abbrev pub SafetyExact : Type 0
SafetyExact =
    (n : ℕ) (units : List Device) (rails : ℕ → Rail) (spans : List Bounds)
    → SpansOf n rails spans
    → (Each (SafeFor n spans) units → Safe n units rails) × (Safe n units rails → Each (SafeFor n spans) units)

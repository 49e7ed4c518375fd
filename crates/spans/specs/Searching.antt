-- What the search keeps: values tried pin by pin, and the modes that hold them. Assumes nothing.
use Rattle.std.specs.Prelude.{◌≡◌, ℕ, ◌<◌, ◌≤◌, Bool, true, false, List, length, slice_index, slice_index_or, Option, MatchOption}
use Rattle.platform.specs.declared.parts.Bounds.{Bounds}
use Rattle.platform.specs.Units.{Device, rail_at, bounds_at, pin_bounds, Within}
use Rattle.spans.specs.Safety.{Alike, Before}

-- no span of the rails is empty
abbrev pub Open : ℕ → List Bounds → Type 0
Open rails spans = (r : ℕ) → r < rails → (bounds_at spans r).low ≤ (bounds_at spans r).high

abbrev pub values_of : List ℕ → ℕ → ℕ
values_of vs p = slice_index vs p

-- the span of pin p's rail
abbrev pub pin_span : Device → List Bounds → ℕ → Bounds
pin_span u spans p = bounds_at spans (rail_at u p)

-- the values of the first n pins lie within their spans
abbrev pub Inside : Device → List Bounds → ℕ → (ℕ → ℕ) → Type 0
Inside u spans n vs = (p : ℕ) → p < n → Within (pin_span u spans p) (vs p)

-- mode m holds the values of the first n pins
abbrev pub Holds : Device → ℕ → ℕ → (ℕ → ℕ) → Type 0
Holds u m n vs = (p : ℕ) → p < n → Within (pin_bounds u m p) (vs p)

-- some mode holds the values of all pins
abbrev pub Held : Device → (ℕ → ℕ) → Type 0
Held u vs = (m : ℕ) × ((m < length u.modes) × Holds u m (length u.pins) vs)

-- whatever values lie inside the spans and begin as vs on the first n pins, some mode holds them
abbrev pub AllHeld : Device → List Bounds → ℕ → (ℕ → ℕ) → Type 0
AllHeld u spans n vs = (ws : ℕ → ℕ) → Inside u spans (length u.pins) ws → Alike n ws vs → Held u ws

-- of those values, these are the first that no mode holds; they are 0 past the last pin
pub record FirstUnheld (u : Device) (spans : List Bounds) (n : ℕ) (vs bad : ℕ → ℕ) : Type 0 where
  pub alike : Alike n bad vs
  pub inside : Inside u spans (length u.pins) bad
  pub unheld : Held u bad → ⊥
  pub first : (ws : ℕ → ℕ) → Inside u spans (length u.pins) ws → Alike n ws vs → Before (length u.pins) ws bad → Held u ws
  pub past : (p : ℕ) → length u.pins ≤ p → bad p ≡ 0

-- what a search among those values answers: none, or the first that no mode holds
abbrev pub Seeks : Device → List Bounds → ℕ → (ℕ → ℕ) → Option (List ℕ) → Type 0
Seeks u spans n vs answer = MatchOption answer (AllHeld u spans n vs) (λ bad. FirstUnheld u spans n vs (values_of bad))

-- 0 from pin n on
abbrev pub Blank : ℕ → (ℕ → ℕ) → Type 0
Blank n vs = (p : ℕ) → n ≤ p → vs p ≡ 0

-- the list marks mode m
abbrev pub Marked : List Bool → ℕ → Type 0
Marked alive m = slice_index_or alive m false ≡ true

-- alive marks the modes that hold the values of the first n pins
abbrev pub Alive : Device → ℕ → (ℕ → ℕ) → List Bool → Type 0
Alive u n vs alive = (m : ℕ) → m < length u.modes → (Marked alive m → Holds u m n vs) × (Holds u m n vs → Marked alive m)

-- of the first n modes, kept marks those of alive whose bounds at the pin hold v
abbrev pub Keeps : ℕ → Device → ℕ → ℕ → List Bool → List Bool → Type 0
Keeps n u pin v alive kept = (m : ℕ) → m < n → (Marked kept m → Marked alive m × Within (pin_bounds u m pin) v) × (Marked alive m → Within (pin_bounds u m pin) v → Marked kept m)

-- v is at most the high of each of the first n modes that kept marks
abbrev pub Under : ℕ → Device → ℕ → List Bool → ℕ → Type 0
Under n u pin kept v = (m : ℕ) → m < n → Marked kept m → v ≤ (pin_bounds u m pin).high

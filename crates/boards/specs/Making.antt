-- What a board may be made from, and how it begins. Assumes nothing.
use Rattle.std.specs.Prelude.{ℕ, ◌<◌, ◌≤◌, List, slice_index_or}
use Rattle.platform.specs.Units.{value_of}

-- the setting of rail i
abbrev pub setting_of : {Setting : Type 0} → Setting → List Setting → ℕ → Setting
setting_of unset settings i = slice_index_or settings i unset

-- a setting from least to most
abbrev pub Within : ℕ → ℕ → ℕ → Type 0
Within least most d = (least ≤ d) × (d ≤ most)

-- 1 to 24 rails, each with a setting that suits and a first value up to the ceiling
pub record Makable {Setting : Type 0} (unset : Setting) (suits : Setting → Type 0) (ceiling count : ℕ) (settings : List Setting) (first : List ℕ) : Type 0 where
  pub counted : (1 ≤ count) × (count ≤ 24)
  pub ranged : (i : ℕ) → i < count → suits (setting_of unset settings i)
  pub low : (i : ℕ) → i < count → value_of first i ≤ ceiling

-- the first n rails rest, each with its setting and at its first value
abbrev pub AllRest : {Setting Row : Type 0} → Setting → Row → (Setting → ℕ → Row → Type 0) → ℕ → List Setting → List ℕ → List Row → Type 0
AllRest unset blank rests n settings first rails = (i : ℕ) → i < n → rests (setting_of unset settings i) (value_of first i) (slice_index_or rails i blank)

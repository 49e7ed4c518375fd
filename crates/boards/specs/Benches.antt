-- A bench, which works a row of rails of one make: what it has of each, its making, and what a start and a poll do. Assumes nothing.
use Rattle.std.specs.Prelude.{◌≡◌, ℕ, Bool, List, slice_index_or}
use Rattle.boards.specs.declared.bench.Bench.{Bench}
use Rattle.boards.specs.Making.{AllRest}
use Rattle.boards.specs.Rails.{Changed, Same}

-- what the bench has of rail i
abbrev pub row : {R : Type 0} → R → Bench R → ℕ → R
row blank b i = slice_index_or b.rails i blank

-- one thing of each rail, by its number
abbrev pub of_each : {R A : Type 0} → R → (R → A) → Bench R → ℕ → A
of_each blank f b i = f (row blank b i)

-- a start of rail r towards t
pub record BenchStarted {R : Type 0} (blank : R) (sent : ℕ → R → R → Type 0) (b : Bench R) (r t : ℕ) (b' : Bench R) : Type 0 where
  pub count : b'.count ≡ b.count
  pub rails : Changed blank b.count r (sent t) Same b.rails b'.rails

-- a poll of rail r
pub record BenchPolled {R : Type 0} (blank : R) (asked : Bool → R → R → Type 0) (passed : R → R → Type 0) (b : Bench R) (r : ℕ) (answer : Bool) (b' : Bench R) : Type 0 where
  pub count : b'.count ≡ b.count
  pub rails : Changed blank b.count r (asked answer) passed b.rails b'.rails

-- a bench made from a count, settings and a first mix
pub record Made {Setting R : Type 0} (unset : Setting) (blank : R) (rests : Setting → ℕ → R → Type 0) (n : ℕ) (settings : List Setting) (first : List ℕ) (b : Bench R) : Type 0 where
  pub count : b.count ≡ n
  pub rails : AllRest unset blank rests n settings first b.rails

-- What a sheet is, which rows its bytes hold, and what is wrong with bytes that hold none. Assumes nothing.
use Rattle.std.specs.Prelude.{◌≡◌, ℕ, zero, suc, ◌+◌, ◌<◌, ◌≤◌, ◌⊎◌, List, [], ◌∷◌, ◌++◌, length, Ok, Err, Result, ◌≢◌}
use Rattle.std.specs.List.{flat_map, AllByRecursion}
use Rattle.text.specs.Written.{Lacks, commas}
use Rattle.answers.specs.Checks.{FirstBad}
use Rattle.answers.specs.Sequels.{One, Only}
use Rattle.faults.specs.Numbers.{sheet_refusal}
use Rattle.faults.specs.declared.sheet.SheetFault.{SheetFault}
use Rattle.faults.specs.declared.sheet.SheetFault.TheVariants.{TooLong, Names, Shape, Field, Turn, Crossed, Short, Memory}

-- a kind of sheet: its number, its names line, how many fields a line has, how a row is written, and the rules of its rows
pub record Sheet (Row : Type 0) : Type 1 where
  pub number : ℕ
  pub names : List ℕ
  pub width : ℕ
  pub fields : Row → List (List ℕ)
  -- each field is in its range
  pub Ranged : Row → Type 0
  -- the row may come right after these rows
  pub Next : List Row → Row → Type 0
  -- its low bound is not above its high bound
  pub Level : Row → Type 0
  -- no row is missing after these
  pub Whole : List Row → Type 0

-- a rule of turn: what the first row has to meet, and what a row has to meet after the row e
pub record After {Row : Type 0} (First : Type 0) (Step : Row → Type 0) (rows : List Row) : Type 0 where
  pub first : rows ≡ [] → First
  pub step : (before : List Row) (e : Row) → rows ≡ before ++ e ∷ [] → Step e

-- there is a last row, and P holds of it
pub record Ends {Row : Type 0} (P : Row → Type 0) (rows : List Row) : Type 0 where
  pub before : List Row
  pub last : Row
  pub whole : rows ≡ before ++ last ∷ []
  pub holds : P last

-- the fault of line n of sheet h where the check at place k is the first to fail
abbrev pub line_fault : ℕ → ℕ → ℕ → SheetFault
line_fault zero h n = Shape h n
line_fault (suc zero) h n = Field h n
line_fault (suc (suc zero)) h n = Turn h n
line_fault (suc (suc (suc k))) h n = Crossed h n

-- P of a fault that has a number; of want of memory nothing is said
abbrev pub Told : (SheetFault → Type 0) → SheetFault → Type 0
Told P f = 0 < (sheet_refusal f).number → P f

-- a field has neither a comma nor a line end in it
abbrev pub Inner : ℕ → Type 0
Inner b = (b ≢ 44) × (b ≢ 10)

abbrev pub Plain : List ℕ → Type 0
Plain f = AllByRecursion Inner f

-- fields as a line
abbrev pub line : List (List ℕ) → List ℕ
line fs = commas fs ++ 10 ∷ []

module _ {Row : Type 0} (s : Sheet Row) where
  abbrev pub written : Row → List ℕ
  written r = line (s.fields r)

  -- the whole sheet
  abbrev pub render : List Row → List ℕ
  render rs = s.names ++ 10 ∷ flat_map written rs

  -- a row that keeps its rules after the rows before it
  pub record Fits (before : List Row) (r : Row) : Type 0 where
    pub ranged : s.Ranged r
    pub next : s.Next before r
    pub level : s.Level r

  -- the rows keep their rules, each after those before it
  abbrev pub GoodAfter : List Row → List Row → Type 0
  GoodAfter before [] = Unit {0}
  GoodAfter before (r ∷ rs) = Fits before r × GoodAfter (before ++ r ∷ []) rs

  abbrev pub Good : List Row → Type 0
  Good rs = GoodAfter [] rs

  -- the bytes begin with a line of these fields, as many as there should be
  pub record Shaped (bs : List ℕ) (fs : List (List ℕ)) : Type 0 where
    pub rest : List ℕ
    pub front : bs ≡ line fs ++ rest
    pub plain : AllByRecursion Plain fs
    pub width : length fs ≡ s.width

  -- the bytes begin with this row, which is within its ranges
  pub record Starts (bs : List ℕ) (r : Row) : Type 0 where
    pub rest : List ℕ
    pub front : bs ≡ written r ++ rest
    pub ranged : s.Ranged r

  -- what is checked of the line that begins rest, in order: its shape, its fields, its turn, its bounds
  abbrev pub checks : List Row → List ℕ → List (Type 0)
  checks rows rest =
      ((fs : List (List ℕ)) × Shaped rest fs)
      ∷ ((r : Row) × Starts rest r)
      ∷ ((r : Row) × Starts rest r × s.Next rows r)
      ∷ ((r : Row) × Starts rest r × s.Next rows r × s.Level r)
      ∷ []

  -- a line follows, and the check at place k is the first that it fails
  abbrev pub BadLine : ℕ → List Row → List ℕ → Type 0
  BadLine k rows rest = (0 < length rest) × FirstBad (checks rows rest) k

  -- the fault of the line that begins rest, which is line n
  abbrev pub LineFault : List Row → List ℕ → ℕ → SheetFault → Type 0
  LineFault rows rest n f = (k : ℕ) × (f ≡ line_fault k s.number n) × BadLine k rows rest

  -- the line that begins rest is this good row, and after is what follows it
  pub record ReadsRow (rows : List Row) (rest : List ℕ) (r : Row) (after : List ℕ) : Type 0 where
    pub front : rest ≡ written r ++ after
    pub fits : Fits rows r

  -- nothing follows, and rows are missing
  abbrev pub TooFew : List Row → List ℕ → Type 0
  TooFew rows rest = (rest ≡ []) × (s.Whole rows → ⊥)

  -- the bytes are a sheet of these rows
  pub record Granted (bs : List ℕ) (rows : List Row) : Type 0 where
    pub short : length bs ≤ 65535
    pub whole : bs ≡ render rows
    pub good : Good rows
    pub complete : s.Whole rows

  -- the lines before line n are good rows, and P holds of those rows and of what is left
  pub record At (P : List Row → List ℕ → Type 0) (bs : List ℕ) (n : ℕ) : Type 0 where
    pub short : length bs ≤ 65535
    pub rows : List Row
    pub rest : List ℕ
    pub whole : bs ≡ render rows ++ rest
    pub good : Good rows
    pub count : n ≡ length rows + 1
    pub here : P rows rest

  -- no names line begins the bytes
  pub record Misnamed (bs : List ℕ) : Type 0 where
    pub short : length bs ≤ 65535
    pub other : bs ≡ s.names → ⊥
    pub none : (rest : List ℕ) → bs ≢ s.names ++ 10 ∷ rest

  -- the names line is all there is, and has no end
  pub record Unended (bs : List ℕ) : Type 0 where
    pub short : length bs ≤ 65535
    pub names : bs ≡ s.names

  -- this sheet is the one that is meant, and P holds
  abbrev pub Here : ℕ → Type 0 → Type 0
  Here h P = (h ≡ s.number) × P

  -- what each fault says of the bytes
  abbrev pub Refused : List ℕ → SheetFault → Type 0
  Refused bs (TooLong h) = Here h (65535 < length bs)
  Refused bs (Names h) = Here h (Misnamed bs)
  Refused bs (Shape h n) = Here h (((n ≡ 0) × Unended bs) ⊎ At (BadLine 0) bs n)
  Refused bs (Field h n) = Here h (At (BadLine 1) bs n)
  Refused bs (Turn h n) = Here h (At (BadLine 2) bs n)
  Refused bs (Crossed h n) = Here h (At (BadLine 3) bs n)
  Refused bs (Short h n) = Here h (At TooFew bs n)
  Refused bs Memory = ⊥

  -- what reading the bytes comes to
  abbrev pub Outcome : List ℕ → Result (List Row) SheetFault → Type 0
  Outcome bs (Ok rows) = Granted bs rows
  Outcome bs (Err f) = Refused bs f

  -- bytes have one outcome at most: rows, or a fault, and no other
  abbrev pub OneOutcome : Type 0
  OneOutcome = (bs : List ℕ) → One (Outcome bs)

  -- two different lists of rows are never written the same
  abbrev pub OneWriting : Type 0
  OneWriting = (rows others : List Row) → Good rows → Good others → render rows ≡ render others → rows ≡ others

  -- what is written of good rows is read back as these rows, and as nothing else
  abbrev pub ReadsBack : Type 0
  ReadsBack = (rows : List Row) → Good rows → s.Whole rows → length (render rows) ≤ 65535 → Only (Outcome (render rows)) (Ok rows)

-- what makes a kind of sheet readable: rows are written in so many plain fields, and no two alike
pub record Lawful {Row : Type 0} (s : Sheet Row) : Type 0 where
  pub some : 0 < s.width
  pub fill : (r : Row) → s.Ranged r → length (s.fields r) ≡ s.width
  pub plain : (r : Row) → s.Ranged r → AllByRecursion Plain (s.fields r)
  pub same : (r t : Row) → s.Ranged r → s.Ranged t → s.fields r ≡ s.fields t → r ≡ t
  -- the names line has no line end in it
  pub named : Lacks 10 s.names

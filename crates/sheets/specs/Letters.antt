-- What reading a letter comes to. Assumes nothing.
use Rattle.std.specs.Prelude.{◌≡◌, ◌≢◌, ℕ, List, Result, MatchResult}
use Rattle.sheets.specs.declared.letter.UnknownLetter.{UnknownLetter}

-- the one thing whose letter the field is, or an error where it is no letter of any
abbrev pub ReadsLetter : {T : Type 0} → (T → List ℕ) → List ℕ → Result T UnknownLetter → Type 0
ReadsLetter {T} letter field r = MatchResult r (λ x. field ≡ letter x) (λ _. (x : T) → field ≢ letter x)

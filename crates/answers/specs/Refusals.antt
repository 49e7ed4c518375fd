-- What a refusal says of itself. Assumes nothing.
use Rattle.std.specs.Prelude.{ℕ, List, ◌∷◌, ◌++◌, decimal}
use Rattle.answers.specs.declared.refusal.Refusal.{Refusal}

-- its number, and the sheet and line that it speaks of, both 0 where it speaks of none; number 0 is want of memory
abbrev pub refusal : ℕ → ℕ → ℕ → Refusal
refusal n s l = record { number = n; sheet = s; line = l }

-- its three numbers, with a comma between each two
abbrev pub shown : Refusal → List ℕ
shown r = decimal r.number ++ 44 ∷ (decimal r.sheet ++ 44 ∷ decimal r.line)

-- The numbers of a board's refusals. Assumes nothing.
use Rattle.std.specs.Prelude.{◌≡◌, ℕ}
use Rattle.boards.specs.declared.fault.BoardFault.{BoardFault}
use Rattle.boards.specs.declared.fault.BoardFault.TheVariants.{OutOfRange}

abbrev pub number_of : BoardFault → ℕ
number_of OutOfRange = 16

-- refused with 16, since what was asked for is not in range
abbrev pub Refused : Type 0 → BoardFault → Type 0
Refused InRange e = (number_of e ≡ 16) × (InRange → ⊥)

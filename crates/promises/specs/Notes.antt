-- What is noted of calls. Assumes nothing.
use Rattle.std.specs.Prelude.{◌≡◌, ℕ, ◌<◌, List, [], ◌∷◌, map}
use Rattle.platform.specs.Units.{value_of}
use Rattle.boards.specs.declared.meaning.Board.{Ghosts}
use Rattle.histories.specs.declared.fault.RunFault.TheVariants.{Between}
use Rattle.histories.specs.declared.run.Call.{Call}
use Rattle.histories.specs.declared.run.Call.TheVariants.{Advance, Turn, Close}
use Rattle.histories.specs.declared.run.Outcome.{Outcome}
use Rattle.histories.specs.declared.run.Outcome.TheVariants.{Answered, Granted, Refused}
use Rattle.promises.specs.declared.entry.Entry.{Entry}

-- R holds of the two lists place by place, and they are as long
abbrev pub Alongside : {X Y : Type 0} → (X → Y → Type 0) → List X → List Y → Type 0
Alongside R [] [] = Unit {0}
Alongside R [] (y ∷ ys) = ⊥
Alongside R (x ∷ xs) [] = ⊥
Alongside R (x ∷ xs) (y ∷ ys) = R x y × Alongside R xs ys

-- the outcomes that were noted
abbrev pub outcomes : List Entry → List Outcome
outcomes log = map (λ e. e.outcome) log

-- the entry has the board's values
abbrev pub Shows : {B : Type 0} → Ghosts B → Entry → B → Type 0
Shows make e b = (i : ℕ) → i < make.rails b → value_of e.values i ≡ make.value b i

-- only a close is refused, between the ends of the script
abbrev pub WorkedOut : Call → Outcome → Type 0
WorkedOut Advance (Answered a) = Unit {0}
WorkedOut Advance Granted = ⊥
WorkedOut Advance (Refused fault) = ⊥
WorkedOut Turn (Answered a) = ⊥
WorkedOut Turn Granted = Unit {0}
WorkedOut Turn (Refused fault) = ⊥
WorkedOut Close (Answered a) = ⊥
WorkedOut Close Granted = Unit {0}
WorkedOut Close (Refused fault) = fault ≡ Between

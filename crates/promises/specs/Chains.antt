-- Calls made one after another on a run and a board. Assumes nothing.
use Rattle.std.specs.Prelude.{◌≡◌, ℕ, ◌≤◌, min, ◌⊎◌, List, [], ◌∷◌, ◌++◌, length, take, drop, None}
use Rattle.boards.specs.declared.meaning.Board.{Ghosts}
use Rattle.histories.specs.declared.run.Call.{Call}
use Rattle.histories.specs.declared.run.Outcome.{Outcome}
use Rattle.runs.specs.declared.run.Run.{Run}
use Rattle.runs.specs.Working.{Ran}
use Rattle.runs.specs.Opening.{IsOpen}
use Rattle.promises.specs.declared.entry.Entry.{Entry}
use Rattle.promises.specs.Notes.{Alongside, outcomes, Shows}

-- each call finds the run open and does what it does; the boards are those that the calls left
pub data Chain {B : Type 0} (make : Ghosts B) (run : Run) (b : B) : List Call → List Outcome → List B → Run → B → Type 0 where
  none : Chain make run b [] [] [] run b
  more : {calls : List Call} {outs : List Outcome} {left ms : List B} {run' run'' : Run} {b' b'' : B} {call : Call} {out : Outcome} → Chain make run b calls outs left run' b' → IsOpen run' → Ran make run' b' call out ms run'' b''
      → Chain make run b (calls ++ (call ∷ [])) (outs ++ (out ∷ [])) (left ++ (b'' ∷ [])) run'' b''

-- as many calls as there were and as the log had room for were made and noted, or so many up to a granted close
abbrev pub Whole : List Call → List Entry → ℕ → Run → Type 0
Whole calls log n run = (n ≡ min (length calls) (length log)) ⊎ ((n ≤ min (length calls) (length log)) × (run ≡ None))

-- n calls were made and noted
pub record Noted {B : Type 0} (make : Ghosts B) (run : Run) (b : B) (calls : List Call) (old log : List Entry) (n : ℕ) (run' : Run) (b' : B) : Type 0 where
  pub left : List B
  pub chain : Chain make run b (take n calls) (outcomes (take n log)) left run' b'
  pub shown : Alongside (Shows make) (take n log) left
  pub later : drop n log ≡ drop n old

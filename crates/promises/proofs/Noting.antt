-- One call more that is made and noted. Assumes nothing.
use Rattle.std.proofs.Common.{◌≡◌, ℕ, ◌+◌, ◌<◌, min, List, [], ◌∷◌, ◌++◌, length, get_or, take, drop, set, sym, refl, ap, ◌∙◌, subst, subst₂, arith}
use Rattle.std.proofs.lemmas.List.{map-append, length-take-le, get_or-take, take_more, take_more_set, drop-drop, drop-set-lt}
use Rattle.boards.specs.declared.meaning.Board.{Ghosts}
use Rattle.histories.specs.declared.run.Call.{Call}
use Rattle.histories.specs.declared.run.Outcome.{Outcome}
use Rattle.runs.specs.declared.run.Run.{Run}
use Rattle.runs.specs.Working.{Ran}
use Rattle.runs.specs.Opening.{IsOpen}
use Rattle.promises.specs.declared.entry.Entry.{Entry}
use Rattle.promises.specs.Notes.{Alongside, outcomes, Shows}
use Rattle.promises.specs.Chains.{Chain, none, more, Noted}
use Rattle.promises.proofs.Pairs.{alongside_push}

module _ {B : Type 0} (make : Ghosts B) (run₀ : Run) (b₀ : B) (calls : List Call) (old : List Entry) where
  pub noted_none : Noted make run₀ b₀ calls old old 0 run₀ b₀
  noted_none = record { left = []; chain = none; shown = tt; later = refl }

  pub noted_more : (log : List Entry) (i : ℕ) (run run' : Run) (b b' : B) (d : Call) (e : Entry) (out : Outcome) → i < length calls → i < length log → IsOpen run
      → Noted make run₀ b₀ calls old log i run b
      → (ms : List B) × Ran make run b (get_or calls i d) out ms run' b'
      → e.outcome ≡ out → Shows make e b'
      → Noted make run₀ b₀ calls old (set log i e) (i + 1) run' b'
  noted_more log i run run' b b' d e out lc ll o w s eo sh =
      let ec = take_more calls i d lc in
      let el = take_more_set log i e ll in
      let es : outcomes (take (i + 1) (set log i e)) ≡ outcomes (take i log) ++ (out ∷ []) =
      ap outcomes el ∙ map-append (λ (x : Entry). x.outcome) (take i log) (e ∷ []) ∙ ap (λ x. outcomes (take i log) ++ (x ∷ [])) eo in
      record {
        left = w.left ++ (b' ∷ []);
        chain = subst₂ (λ cs os. Chain make run₀ b₀ cs os (w.left ++ (b' ∷ [])) run' b') (sym ec) (sym es) (more w.chain o s.1);
        shown = subst (λ l. Alongside (Shows make) l (w.left ++ (b' ∷ []))) (sym el) (alongside_push (Shows make) (take i log) w.left e b' w.shown sh);
        later = drop-set-lt (i + 1) log i e (omega arith) ∙ sym (drop-drop 1 i log) ∙ ap (drop 1) w.later ∙ drop-drop 1 i old;
      }

  -- the same, where the first calls are gone through, as many as there is room for
  pub noted_next : (log : List Entry) (room i : ℕ) (run run' : Run) (b b' : B) (d : Call) (e : Entry) (out : Outcome) → room ≡ min (length calls) (length log) → i < length (take room calls) → IsOpen run
      → Noted make run₀ b₀ calls old log i run b
      → (ms : List B) × Ran make run b (get_or (take room calls) i d) out ms run' b'
      → e.outcome ≡ out → Shows make e b'
      → Noted make run₀ b₀ calls old (set log i e) (i + 1) run' b'
  noted_next log room i run run' b b' d e out is within o w s eo sh =
      let lt : i < room = omega (arith, within, length-take-le room calls (omega (arith, is))) in
      noted_more log i run run' b b' d e out (omega (arith, lt, is)) (omega (arith, lt, is)) o w (rw (get_or-take room calls i d lt) at s) eo sh

-- Why the promise holds. Assumes nothing.
use Rattle.std.proofs.Common.{◌≡◌, ℕ, List, [], ◌∷◌, map, take, sym, refl, ap, ◌∙◌, subst}
use Rattle.platform.specs.declared.parts.Mix.{Mix}
use Rattle.platform.specs.Rules.{Sound}
use Rattle.platform.specs.Describing.{Model}
use Rattle.boards.specs.declared.meaning.Board.{Ghosts}
use Rattle.boards.specs.Meaning.{Stands}
use Rattle.histories.specs.declared.run.Call.{Call}
use Rattle.histories.specs.declared.run.Direction.TheVariants.{Forward}
use Rattle.histories.specs.declared.step.Step.{Step}
use Rattle.openings.specs.Openings.{Suits, Opened}
use Rattle.openings.specs.Runs.{State, at, History, begun}
use Rattle.openings.specs.Laws.{Begins}
use Rattle.openings.proofs.Safety.{safe_throughout}
use Rattle.openings.proofs.Arrival.{reaches, called_told}
use Rattle.openings.proofs.Orders.{no_way_round}
use Rattle.runs.specs.declared.run.Run.{Run}
use Rattle.runs.specs.Working.{meaning, boards, journey_state, state_of}
use Rattle.runs.specs.Opening.{opening_plan, Begun}
use Rattle.runs.proofs.Forms.{fresh_plan}
use Rattle.promises.specs.declared.entry.Entry.{Entry}
use Rattle.promises.specs.Notes.{outcomes}
use Rattle.promises.specs.Chains.{Whole, Noted}
use Rattle.promises.specs.Promise.{meant_state, Promised}
use Rattle.promises.proofs.Meant.{Fits, history_fits, history_meant}
use Rattle.promises.proofs.Going.{Held, Reached, along}

module _ {B : Type 0} (make : Ghosts B) (m : Model) (first : Mix) (script : List Step) (b : B)
    (sound : Sound m.rails m.units) (stands : Stands (make.rails b) (make.patience b) (meaning make b))
    (opened : Opened m.units (opening_plan make m first script b) (make.rails b) (meaning make b)) where
  begins : Begins m.units (opening_plan make m first script b) (make.rails b) (meaning make b)
  begins = record { sound = sound; stands = subst (λ n. Stands n (make.patience b) (meaning make b)) opened.suits.counted stands; opened = opened }

  fits : Fits make (opening_plan make m first script b) b
  fits = (opened.suits.counted, refl)

  -- the board suits the plan as long as its count stays
  pub suits : Suits (opening_plan make m first script b) m.rails
  suits = record { counted = refl; values = opened.suits.values; targets = opened.suits.targets }

  -- a run that has just begun holds the plan
  pub begun_held : (run : Run) → Begun m.rails first script run → Held make (opening_plan make m first script b) suits b run b
  begun_held run w = subst (λ r. Held make (opening_plan make m first script b) suits b r b) (sym w.is) (fresh_plan make m.rails first script w.journey b w.fresh, opened.suits.counted)

  begun_reached : (run : Run) → Begun m.rails first script run → Reached make (opening_plan make m first script b) suits b [] [] [] run b
  begun_reached run w =
      let j = w.journey in
      let f = w.fresh in
      let q = opening_plan make m first script b in
      let here : ◌≡◌ {A = State B} (at 0 Forward b) (journey_state j b) = ap (λ k. at k Forward b) (sym f.place) ∙ ap (λ d. at j.place d b) (sym f.direction) in
      subst (λ r. Reached make q suits b [] [] [] r b) (sym w.is) (record {
        moments = b ∷ [];
        history = subst (λ x. History (boards make) q (at 0 Forward b) [] [] (b ∷ []) [] x) here begun;
      })

  pub promised : (calls : List Call) (old log : List Entry) (n : ℕ) (began run : Run) (b' : B)
      → Begun m.rails first script began
      → Whole calls old n run
      → Noted make began b calls old log n run b'
      → Promised make m (opening_plan make m first script b) b calls old log n run b'
  promised calls old log n began run b' new whole made =
      let q = opening_plan make m first script b in
      let w = along make q suits b began (begun_held began new) (begun_reached began new) run b' made.chain in
      let r = w.reached in
      let left = made.left in
      record {
        moments = r.moments;
        left = left;
        history = r.history;
        whole = whole;
        shown = made.shown;
        later = made.later;
        unrefused = w.worked;
        safe = safe_throughout m.units q (make.rails b) (meaning make b) (take n calls) (outcomes (take n log)) (map (meaning make) r.moments) (map (meaning make) left) (meant_state make (state_of run b')) begins (history_meant make q fits r.history);
        arrives = λ calls outs moments left k d x more outs' moments' left' y h h'.
            reaches m.units q (make.rails b) (meaning make b) calls outs (map (meaning make) moments) (map (meaning make) left) k d (meaning make x) more outs' (map (meaning make) moments') (map (meaning make) left') (meant_state make y) begins
            (history_meant make q fits h) (history_meant make q (history_fits make q fits h) h');
        tells = λ k d x a moments y s. called_told k d s;
        orders = λ last none ends changed. no_way_round m.units q last (make.rails b) (meaning make b) sound none changed ends opened;
      }

-- One call more of a run that is under way on the board it was opened on. Assumes nothing.
use Rattle.std.proofs.Common.{◌≡◌, ℕ, List, [], ◌∷◌, ◌++◌, Some, None, sym, refl, ap, ◌∙◌, subst, arith}
use Rattle.platform.specs.Units.{value_of}
use Rattle.boards.specs.declared.meaning.Board.{Ghosts}
use Rattle.histories.specs.declared.run.Call.{Call}
use Rattle.histories.specs.declared.run.Direction.TheVariants.{Forward}
use Rattle.histories.specs.declared.run.Outcome.{Outcome}
use Rattle.histories.specs.declared.step.Step.{Step}
use Rattle.openings.specs.Plans.{Plan}
use Rattle.openings.specs.Openings.{Suits}
use Rattle.openings.specs.Runs.{State, at, board_of, Called, advanced, turned, closed, kept_open, History, then}
use Rattle.runs.specs.declared.journey.Journey.{Journey}
use Rattle.runs.specs.declared.run.Run.{Run}
use Rattle.runs.specs.Steps.{steps_of}
use Rattle.runs.specs.Working.{boards, plan_of, script_of, journey_state, state_of, Same, SameRun, Ran, unsuited, made}
use Rattle.runs.specs.Opening.{IsOpen}
use Rattle.promises.specs.Notes.{Alongside, WorkedOut}
use Rattle.promises.specs.Chains.{Chain, none, more}
use Rattle.promises.proofs.Pairs.{alongside_push}
use Rattle.promises.proofs.Meant.{Fits, called_fits}

-- every call that is made answers, is granted, or is a close between the ends
pub worked_out : {X : Type 0} {w : _} {q : Plan} {x y : State X} {call : Call} {out : Outcome} {ms : List X} → Called w q x call out ms y → WorkedOut call out
worked_out (advanced s) = tt
worked_out (turned s) = tt
worked_out (closed h) = tt
worked_out (kept_open lo hi) = refl

pub board_state : {B : Type 0} (run : Run) (b : B) → board_of (state_of run b) ≡ b
board_state (Some j) b = refl
board_state None b = refl

module _ {B : Type 0} (make : Ghosts B) (q : Plan) (ok : Suits q q.rails) (b₀ : B) where
  -- an open run holds the plan, on a board that fits it
  abbrev pub Held : Run → B → Type 0
  Held (Some j) b = (plan_of make j b ≡ q) × (make.rails b ≡ q.rails)
  Held None b = Unit {0}

  -- these calls lead from the opening to this run and board
  pub record Reached (calls : List Call) (outs : List Outcome) (left : List B) (run : Run) (b : B) : Type 0 where
    pub moments : List B
    pub history : History (boards make) q (at 0 Forward b₀) calls outs moments left (state_of run b)

  abbrev mk : ℕ → ℕ → (ℕ → ℕ) → List Step → Plan
  mk n p first script = record { rails = n; ceiling = make.CEILING; patience = p; first = first; script = script }

  -- the plan of the same run on a board of the same patience
  same_plan : (j j' : Journey) (b b' : B) → Same j j' → make.patience b' ≡ make.patience b → plan_of make j' b' ≡ plan_of make j b
  same_plan j j' b b' s e =
      ap (λ n. mk n (make.patience b') (value_of j'.first.values) (script_of j')) s.rails
      ∙ ap (λ p. mk j.rails p (value_of j'.first.values) (script_of j')) e
      ∙ ap (λ m. mk j.rails (make.patience b) (value_of m.values) (script_of j')) s.first
      ∙ ap (λ l. mk j.rails (make.patience b) (value_of j.first.values) (steps_of l)) s.steps

  still_held : (j : Journey) (b b' : B) (run' : Run) → plan_of make j b ≡ q → Fits make q b → Fits make q b' → SameRun j run' → Held run' b'
  still_held j b b' (Some j') e f f' s = (same_plan j j' b b' s (f'.1 ∙ sym f.1) ∙ e, f'.0)
  still_held j b b' None e f f' s = tt

  -- what one more call leaves
  pub record More (calls : List Call) (outs : List Outcome) (left : List B) (call : Call) (out : Outcome) (run : Run) (b : B) : Type 0 where
    pub held : Held run b
    pub reached : Reached (calls ++ (call ∷ [])) (outs ++ (out ∷ [])) (left ++ (b ∷ [])) run b
    pub worked : WorkedOut call out

  pub one_more : {calls : List Call} {outs : List Outcome} {left ms : List B} {call : Call} {out : Outcome} (run run' : Run) (b b' : B)
      → IsOpen run → Held run b → Reached calls outs left run b → Ran make run b call out ms run' b' → More calls outs left call out run' b'
  one_more None run' b b' o h r s = let e = o.1 in let z : ◌≡◌ {A = ℕ} 0 1 = cc in absurd (omega arith)
  one_more (Some j) run' b b' o h r (unsuited w bad) =
      absurd (bad (subst (λ p. Suits p (make.rails b)) (sym h.0) (subst (λ n. Suits q n) (sym h.1) ok)))
  one_more {calls} {outs} {left} {ms} {call} {out} (Some j) run' b b' o h r (made s c same) =
      let f : Fits make q b = (h.1, ap (λ (p : Plan). p.patience) h.0) in
      let c' : Called (boards make) q (journey_state j b) call out ms (state_of run' b') = subst (λ p. Called (boards make) p (journey_state j b) call out ms (state_of run' b')) h.0 c in
      let f' : Fits make q b' = subst (Fits make q) (board_state run' b') (called_fits make q f c') in
      record {
        held = still_held j b b' run' h.0 f f' same;
        reached = record {
          moments = r.moments ++ ms;
          history = subst (λ x. History (boards make) q (at 0 Forward b₀) (calls ++ (call ∷ [])) (outs ++ (out ∷ [])) (r.moments ++ ms) (left ++ (x ∷ [])) (state_of run' b')) (board_state run' b') (then r.history c');
        };
        worked = worked_out c';
      }

  -- calls made one after another from an open run
  pub record Along (calls : List Call) (outs : List Outcome) (left : List B) (run : Run) (b : B) : Type 0 where
    pub held : Held run b
    pub reached : Reached calls outs left run b
    pub worked : Alongside WorkedOut calls outs

  pub along : (run : Run) → Held run b₀ → Reached [] [] [] run b₀ → {calls : List Call} {outs : List Outcome} {left : List B} (run' : Run) (b' : B) → Chain make run b₀ calls outs left run' b' → Along calls outs left run' b'
  along run h r run' b' none = record { held = h; reached = r; worked = tt }
  along run h r run' b' (more {calls} {outs} {left} {run' = run₁} {b' = b₁} {call} {out} c o s) =
      let w = along run h r run₁ b₁ c in
      let v = one_more run₁ run' b₁ b' o w.held w.reached s in
      record { held = v.held; reached = v.reached; worked = alongside_push WorkedOut calls outs call out w.worked v.worked }

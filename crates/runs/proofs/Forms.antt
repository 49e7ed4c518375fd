-- What a script in form gives a run to hold, and what the run then goes by. Assumes nothing.
use Rattle.std.proofs.Common.{◌≡◌, ℕ, suc, ◌<◌, ◌≤◌, List, ◌∷◌, length, get_or, drop, ap, ◌∙◌, subst, arith, drop-cons}
use native.Mathlib.Decide.{dec_lt}
use Rattle.platform.specs.declared.parts.Mix.{Mix}
use Rattle.boards.specs.declared.meaning.Board.{Ghosts}
use Rattle.histories.specs.declared.rail.Rail.{Rail}
use Rattle.histories.specs.declared.step.Step.{Step}
use Rattle.histories.specs.declared.step.Step.TheVariants.{Start, Wait}
use Rattle.histories.specs.Rails.{rail_of, after, Ready}
use Rattle.openings.specs.Openings.{Formed}
use Rattle.runs.specs.declared.journey.Journey.{Journey}
use Rattle.runs.specs.Journeys.{OnRails}
use Rattle.runs.specs.Working.{plan, plan_of, script_of}
use Rattle.runs.specs.Opening.{Fresh}

-- it has at most 64 steps
pub formed_short : (n : ℕ) (first : ℕ → ℕ) (script : List Step) → Formed n first script → length script ≤ 64
formed_short n first script f = elim (dec_lt 64 (length script)) [ yes lt ↦ absurd (omega (arith, (f 64 (omega (arith, lt))).1 lt)) | no ge ↦ omega (arith, ge) ]

ready_rail : (n : ℕ) (s : Step) (rest : List Step) (rails : ℕ → Rail) → Ready n (s ∷ rest) rails → rail_of s < n
ready_rail n (Start r t) rest rails h = h.0
ready_rail n (Wait r) rest rails h = h.0

-- and each is about one of the rails
pub formed_rails : (n : ℕ) (first : ℕ → ℕ) (script : List Step) → Formed n first script → OnRails n script
formed_rails n first script f k h =
    ready_rail n (get_or script k (Start 0 0)) (drop (suc k) script) (after first script k) (subst (λ l. Ready n l (after first script k)) (drop-cons script k (Start 0 0) h) (f k (omega (arith, h))).0)

-- a run that has just begun goes by the plan that it was opened with
pub fresh_plan : {B : Type 0} (make : Ghosts B) (n : ℕ) (first : Mix) (script : List Step) (j : Journey) (b : B) → Fresh n first script j → plan_of make j b ≡ plan make n first.values script b
fresh_plan make n first script j b f =
    ap (λ m. plan make m j.first.values (script_of j) b) f.rails
    ∙ ap (λ x. plan make n x.values (script_of j) b) f.first_is
    ∙ ap (λ s. plan make n first.values s b) f.script_is

-- A steady layer over any calls. Assumes nothing.
use Rattle.std.proofs.Common.{◌≡◌, ℕ, zero, suc, ◌<◌, ◌≤◌, min, Bool, true, false, leb, List, [], ◌∷◌, map, take, replicate, Decides, sym, refl, ap, ◌∙◌, subst, arith, eq-eqb, ne_eqb}
use native.Mathlib.Decide.{ℕ_discrete}
use Rattle.std.proofs.lemmas.Bool.{leb-true, le-leb}
use Rattle.std.proofs.lemmas.Bool.Decides.{nat_tests, Decides-at}
use Rattle.layers.specs.declared.steady.Steady.{Steady}
use Rattle.layers.specs.Steady.{run_at, Counted, SteadyStarted, SteadyPolled}
use Rattle.makes.specs.Calls.{Ask, rail_of, Since, none, polled, sent, answers}
use Rattle.makes.specs.Laws.{Runs, SteadyRuns}

-- how many yes answers run, of answers with the last first
abbrev pub running : List Bool → ℕ
running [] = 0
running (true ∷ more) = suc (running more)
running (false ∷ more) = 0

all_yes : (k : ℕ) (told : List Bool) → k ≤ running told → take k told ≡ replicate k true
all_yes zero told h = refl
all_yes (suc k) [] h = absurd (omega arith)
all_yes (suc k) (true ∷ more) h = ap (λ l. true ∷ l) (all_yes k more (omega arith))
all_yes (suc k) (false ∷ more) h = absurd (omega arith)

enough : (k : ℕ) (told : List Bool) → take k told ≡ replicate k true → k ≤ running told
enough zero told e = omega arith
enough (suc k) [] e = let z : ◌≡◌ {A = ℕ} 0 1 = cc in omega arith
enough (suc k) (true ∷ more) e = let e' : take k more ≡ replicate k true = cc in omega (arith, enough k more e')
enough (suc k) (false ∷ more) e = let z : ◌≡◌ {A = ℕ} 0 1 = cc in omega arith

last_yes : (k : ℕ) (told : List Bool) → Decides (leb k (running told)) (take k told ≡ replicate k true)
last_yes k told = (λ e. all_yes k told (leb-true k (running told) e), λ e. le-leb k (running told) (enough k told e))

counted_run : (k run run' : ℕ) (said answer : Bool) (more : List Bool) → run ≡ min k (running more) → Counted k said answer run run' → run' ≡ min k (running (said ∷ more))
counted_run k run run' true answer more e c = omega (arith, c.count)
counted_run k run run' false answer more e c = omega (arith, c.count)

counted_told : (k run run' : ℕ) (said answer : Bool) (more : List Bool) → 1 ≤ k → run ≡ min k (running more) → Counted k said answer run run' → answer ≡ leb k (running (said ∷ more))
counted_told k run run' true answer more h e c = c.told ∙ grind (arith, nat_tests)
counted_told k run run' false answer more h e c = c.told ∙ grind (arith, nat_tests)

-- what the layer did to the board below, and what it has counted of rail r
pub record Below {B : Type 0} (starts : B → ℕ → ℕ → B → Type 0) (polls : B → ℕ → Bool → B → Type 0) (k r : ℕ) (b : B) (asks : List Ask) (s : Steady B) : Type 0 where
  pub below : List Ask
  pub made : Since starts polls r b below s.below
  pub rails : map rail_of below ≡ map rail_of asks
  pub need : s.need ≡ k
  pub run : run_at s.run r ≡ min k (running (answers r below))

at_rail : {B : Type 0} {polls : B → ℕ → Bool → B → Type 0} {s s' : Steady B} {k r i : ℕ} {answer : Bool} → s.need ≡ k → r ≡ i → (q : SteadyPolled polls s i answer s') → Counted k q.said answer (run_at s.run r) (run_at s'.run r)
at_rail {s = s} {s' = s'} {r = r} {answer = answer} en e q =
    subst (λ n. Counted n q.said answer (run_at s.run r) (run_at s'.run r)) en
    (subst (λ j. Counted s.need q.said answer (run_at s.run j) (run_at s'.run j)) (sym e) q.run.rail)

module _ {B : Type 0} {starts : B → ℕ → ℕ → B → Type 0} {polls : B → ℕ → Bool → B → Type 0} (k r : ℕ) (h : r < 24) where
  pub counted : {s s' : Steady B} {asks : List Ask} → s.need ≡ k → run_at s.run r ≡ 0 → Since (SteadyStarted starts) (SteadyPolled polls) r s asks s' → Below starts polls k r s.below asks s'
  counted en er none = record { below = []; made = none; rails = refl; need = en; run = omega arith }
  counted en er (polled {b' = s''} {b'' = s'} {ask = a} p q) =
      let w = counted en er p in
      record {
        below = record { rail = a.rail; answer = q.said } ∷ w.below;
        made = polled w.made q.below;
        rails = ap (λ l. a.rail ∷ l) w.rails;
        need = q.need ∙ w.need;
        run = elim (ℕ_discrete r a.rail) [
          | yes e ↦ rw (eq-eqb a.rail r (sym e)) (counted_run k (run_at s''.run r) (run_at s'.run r) q.said a.answer (answers r w.below) w.run (at_rail w.need e q))
          | no ne ↦ rw (ne_eqb a.rail r (λ e. ne (sym e))) (q.run.others r h ne ∙ w.run)
        ];
      }
  counted en er (sent p ne q) =
      let w = counted en er p in
      record { below = w.below; made = sent w.made ne q.below; rails = w.rails; need = q.need ∙ w.need; run = q.run.others r h ne ∙ w.run }

  pub runs : {s s' : Steady B} {b : B} {asks : List Ask} {answer : Bool} → 1 ≤ k → Below starts polls k r b asks s → SteadyPolled polls s r answer s' → Runs starts polls k r b asks answer s'.below
  runs {s} {s'} {answer = answer} some w q =
      let said = q.said ∷ answers r w.below in
      let told = counted_told k (run_at s.run r) (run_at s'.run r) q.said answer (answers r w.below) some w.run (at_rail w.need refl q) in
      record {
        below = record { rail = r; answer = q.said } ∷ w.below;
        made = polled w.made q.below;
        rails = ap (λ l. r ∷ l) w.rails;
        running = rw (eq-eqb r r refl) (Decides-at answer (leb k (running said)) told (last_yes k said));
      }

pub steady_runs : {B : Type 0} (starts : B → ℕ → ℕ → B → Type 0) (polls : B → ℕ → Bool → B → Type 0) → SteadyRuns starts polls
steady_runs starts polls s s' s'' s''' r t asks answer some h start p q =
    runs s.need r h some (counted s.need r h start.need start.run.rail p) q

-- What no call changes, and so the count of a bench. Assumes nothing.
use Rattle.std.proofs.Common.{◌≡◌, ℕ, Bool, List, refl, ◌∙◌}
use Rattle.boards.specs.declared.bench.Bench.{Bench}
use Rattle.boards.specs.Benches.{BenchStarted, BenchPolled}
use Rattle.makes.specs.Calls.{Ask, Since, none, polled, sent}

module _ {B : Type 0} {starts : B → ℕ → ℕ → B → Type 0} {polls : B → ℕ → Bool → B → Type 0} (count : B → ℕ)
    (by_start : (b b' : B) (i t : ℕ) → starts b i t b' → count b' ≡ count b)
    (by_poll : (b b' : B) (i : ℕ) (answer : Bool) → polls b i answer b' → count b' ≡ count b) where
  pub kept : {r : ℕ} {b b' : B} {asks : List Ask} → Since starts polls r b asks b' → count b' ≡ count b
  kept none = refl
  kept (polled p q) = by_poll _ _ _ _ q ∙ kept p
  kept (sent p ne q) = by_start _ _ _ _ q ∙ kept p

pub count_kept : {R : Type 0} {blank : R} {sends : ℕ → R → R → Type 0} {asked : Bool → R → R → Type 0} {passed : R → R → Type 0} {r : ℕ} {b b' : Bench R} {asks : List Ask} → Since (BenchStarted blank sends) (BenchPolled blank asked passed) r b asks b' → b'.count ≡ b.count
count_kept p = kept (λ b. b.count) (λ b b' i t q. q.count) (λ b b' i answer q. q.count) p

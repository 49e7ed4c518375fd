use Rattle.std.proofs.Common.{ℕ, arith, rules, tests, refl}
use Rattle.std.proofs.iter.Yields.{nat_range_steps}
use Rattle.std.proofs.lemmas.Iterator.{YieldsList, cases_from_all, YieldsList-from_range}
use Rattle.std.specs.List.{range_with_len}
use Rattle.platform.specs.Units.{value_of}
use Rattle.histories.specs.Rails.{after, IsStill}
use Rattle.scripts.proofs.Searches.{below_decided}
use Rattle.scripts.proofs.proposal.Proposal.all_still.Goals as goal

pub returns : goal.returns
returns c =
    let n = c.rails.result in
    let Still : ℕ → Type 0 = λ i. IsStill (after (value_of c.args.self.now.first.now.values) c.args.self.now.script.now c.args.place i) in
    let road : YieldsList nat_range_steps (λ x. x) (record { start = 0; end = n }) (range_with_len 0 n) = YieldsList-from_range 0 n n refl (omega arith) in
    let looked = cases_from_all _ _ c.all.result Still (λ i. Still i → ⊥) c.all.ensures.ran road (λ i q called. search (rules, tests)) (λ i q called. search (rules, tests)) in
    rw c.rails.ensures at (below_decided Still n c.all.result looked)

use Rattle.std.proofs.Common.{⊎_elim, arith}
use Rattle.std.proofs.lemmas.List.{get_or_past}
use Rattle.std.proofs.lemmas.Bool.{cases_lt}
use Rattle.scripts.proofs.proposal.Proposal.last.Goals as goal

pub returns : goal.returns
returns c =
    let values = c.from_fn-values.result in
    record {
      own = λ i lt. let made = c.from_fn-values.ensures.items.at i 0 (omega (arith, lt, c.args.self.now.platform.now.rails_counted.1)) in grind (arith, made);
      past = λ i le.
          ⊎_elim
          (λ lt. let made = c.from_fn-values.ensures.items.at i 0 lt in grind (arith, made))
          (λ ge. get_or_past values i 0 (omega (arith, ge, c.from_fn-values.ensures.items.long)))
          (cases_lt i 24);
    }

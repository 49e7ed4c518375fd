use Rattle.std.proofs.Common.{rules, tests}
use Rattle.std.proofs.lemmas.Iterator.{first_from_Range}
use Rattle.platform.specs.Units.{value_of}
use Rattle.openings.specs.Openings.{InForm}
use Rattle.scripts.proofs.Searches.{first_misstep}
use Rattle.scripts.proofs.proposal.Proposal.misstep.Goals as goal

pub returns : goal.returns
returns c =
    let n = c.args.self.now.platform.now.rails in
    let first = value_of c.args.self.now.first.now.values in
    let script = c.args.self.now.script.now in
    first_misstep n first script c.find.result (first_from_Range _ _ _ _ (λ k. InForm n first script k → ⊥) (InForm n first script) c.find.ensures.ran (λ k q called. search (rules, tests)) (λ k q called. search (rules, tests)))

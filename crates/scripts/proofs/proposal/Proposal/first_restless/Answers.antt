use Rattle.platform.specs.Making.{model_of}
use Rattle.scripts.proofs.Mixes.{first_said}
use Rattle.scripts.proofs.proposal.Proposal.first_restless.Goals as goal

pub returns : goal.returns
returns c =
    let p = c.args.self.now.platform.now in
    first_said (model_of p) p.wired c.args.self.now.first.now.values c.lowest_unrested.result c.lowest_unrested.ensures

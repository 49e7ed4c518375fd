use Rattle.platform.specs.Units.{value_of}
use Rattle.platform.specs.Making.{model_of}
use Rattle.scripts.proofs.Mixes.{last_said}
use Rattle.scripts.proofs.proposal.Proposal.last_restless.Goals as goal

pub returns : goal.returns
returns c =
    let p = c.args.self.now.platform.now in
    last_said (model_of p) p.wired c.args.last.values c.lowest_unrested.result c.lowest_unrested.ensures (value_of c.args.self.now.first.now.values) c.args.self.now.script.now c.requires

use Rattle.std.proofs.Common.{ap, ◌∙◌}
use Rattle.platform.specs.Units.{value_of}
use Rattle.histories.specs.Rails.{end_of}
use Rattle.histories.proofs.Ends.{end_last}
use Rattle.scripts.proofs.proposal.Proposal.last_value.Goals as goal

pub returns-then-rail-rails-clause-own : goal.returns-then-rail-rails-clause-own
returns-then-rail-rails-clause-own c _ =
    c.end.ensures ∙ ap end_of c.rail.ensures ∙ end_last (value_of c.args.self.now.first.now.values) c.args.self.now.script.now c.args.rail

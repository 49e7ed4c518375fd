use Rattle.std.proofs.Common.{ℕ, suc, ◌<◌}
use Rattle.platform.specs.Units.{value_of}
use Rattle.platform.specs.Making.{model_of}
use Rattle.histories.specs.Rails.{after}
use Rattle.histories.specs.Spans.{Safe}
use Rattle.scripts.proofs.proposal.Proposal.unsafe_step.Given as goal

abbrev pub invariant-loop-step : goal.invariant-loop-step
invariant-loop-step l =
    (j : ℕ) → j < l.step → Safe (model_of l.self.platform.now).rails (model_of l.self.platform.now).units (after (value_of l.self.first.now.values) l.self.script.now (suc j))

use Rattle.std.proofs.Common.{ℕ, suc, subst, add-one, arith, below_more}
use Rattle.platform.specs.Units.{value_of}
use Rattle.platform.specs.Making.{model_of}
use Rattle.histories.specs.Rails.{after}
use Rattle.histories.specs.Spans.{Safe, SpansOf}
use Rattle.histories.proofs.Spans.{safety_exact}
use Rattle.scripts.specs.Checking.{spans_of}
use Rattle.scripts.proofs.Mixes.{bad_same, spans_same}
use Rattle.scripts.proofs.proposal.Proposal.unsafe_step.Goals as goal
use Rattle.scripts.proofs.proposal.Proposal.unsafe_step.Goals.{After-spans}

-- the spans are those of the platform's rails after the step
shown : (c : After-spans) → SpansOf c.args.self.now.platform.now.rails (after (value_of c.args.self.now.first.now.values) c.args.self.now.script.now (suc c.loop-step.step)) c.spans.result
shown c r lt =
    subst (λ (k : ℕ). SpansOf 24 (after (value_of c.args.self.now.first.now.values) c.args.self.now.script.now k) c.spans.result) (add-one c.loop-step.step) c.spans.ensures r
    (omega (arith, lt, c.args.self.now.platform.now.rails_counted.1))

pub returns-in-Some : goal.returns-in-Some
returns-in-Some c =
    let m = model_of c.args.self.now.platform.now in
    let rails = after (value_of c.args.self.now.first.now.values) c.args.self.now.script.now (suc c.loop-step.step) in
    let spans = c.spans.result in
    record {
      there = c.loop-step-test.true;
      bad = bad_same m spans (spans_of m.rails rails) (spans_same m.rails rails spans (shown (goal.at.returns-in-Some c).After-spans)) c.in-Some.bad.unit c.in-Some.bad.values c.in-Some.ensures;
      before = c.loop-step.invariant;
    }

pub loop-step-preserved : goal.loop-step-preserved
loop-step-preserved c =
    let m = model_of c.args.self.now.platform.now in
    let at : ℕ → ℕ → _ = after (value_of c.args.self.now.first.now.values) c.args.self.now.script.now in
    below_more (λ j. Safe m.rails m.units (at (suc j))) c.loop-step.step c.loop-step.invariant
    ((safety_exact m.rails m.units (at (suc c.loop-step.step)) c.spans.result (shown (goal.at.loop-step-preserved c).After-spans)).0 c.in_default.ensures)

pub returns : goal.returns
returns c k l = c.loop-step.invariant k (omega (arith, c.loop-step-test.false))

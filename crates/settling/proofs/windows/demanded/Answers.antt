use Rattle.std.proofs.Common.{◌≡◌, ◌+◌, length, set, subst, arith, rules}
use Rattle.platform.specs.declared.parts.Bounds.{Bounds}
use Rattle.settling.specs.Choices.{demand_at, DemandedTo}
use Rattle.settling.specs.Narrowing.{Hold}
use Rattle.settling.proofs.Holds.{demand_more}
use Rattle.settling.proofs.windows.demanded.Goals as goal

pub loop-demand-preserved : goal.loop-demand-preserved
loop-demand-preserved c =
    let demands = c.args.demands.now in
    let i = c.loop-demand.demand-index in
    let windows = c.loop-demand.windows in
    let more = demand_more demands i windows c.loop-demand.invariant.0 (c.requires i c.loop-demand-test.true) c.loop-demand.invariant.1 in
    (search rules, subst (λ (w : Bounds). Hold (DemandedTo (i + 1) demands) (set windows (demand_at demands i).rail w)) (cc) more)

pub returns : goal.returns
returns c =
    let all : c.loop-demand.demand-index ≡ length c.args.demands.now = omega arith in
    rw all at c.loop-demand.invariant.1

use Rattle.std.proofs.Common.{◌≡◌, Err, replicate, rules}
use Rattle.faults.specs.declared.settle.SettleFault.TheVariants.{NoChoice}
use Rattle.settling.specs.Choices.{units_of}
use Rattle.settling.proofs.Drafts.{sound}
use Rattle.settling.proofs.Endings.{stands_first, settled_none, settled_some}
use Rattle.settling.proofs.answer.settle.Goals as goal

pub search-requires-clause-stands : goal.search-requires-clause-stands
search-requires-clause-stands g c = stands_first g.C.Cost.toll (units_of c.args.platform.now) c.args.demands.now c.demanded.result c.nothing.result c.demanded.ensures (search rules) c.nothing.ensures

pub returns-in_err-modes : goal.returns-in_err-modes
returns-in_err-modes g c =
    let platform = c.args.platform.now in
    let known = rw c.rails.ensures at c.in_default.ensures in
    let none = rw c.in_err-modes.ensures.ok_part at c.search.ensures in
    let err : c.from_residual.result ≡ Err NoChoice = search rules in
    rw err (known, settled_none g.C.Cost.toll (units_of platform) c.args.demands.now platform.rails (sound platform) (replicate 24 0) none)

pub returns : goal.returns
returns g c =
    let platform = c.args.platform.now in
    let known = rw c.rails.ensures at c.in_default.ensures in
    let some = rw c.in_ok-modes.ensures.ok_part at c.search.ensures in
    settled_some g.C.Cost.toll (units_of platform) c.args.demands.now platform.rails (sound platform) (replicate 24 0) known c.in_ok-modes.field-0 c.lows.result c.lows.ensures (search rules) some

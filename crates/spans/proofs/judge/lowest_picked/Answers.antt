use Rattle.std.proofs.Common.{◌≡◌, ◌⊎◌, true, false, get_or, length, vec_items, replicate, inl, inr, ◌<◌, rules}
use Rattle.std.proofs.lemmas.List.Elements.{at_read, AllWithin-more}
use Rattle.std.specs.Fn.{FnReturnsAt}
use Rattle.std.proofs.lemmas.Fn.{says_at}
use Rattle.platform.specs.declared.unit.Unit.{Unit}
use Rattle.platform.specs.Devices.{device}
use Rattle.spans.specs.Safety.{SafeFor}
use Rattle.spans.specs.Searching.{values_of}
use Rattle.spans.proofs.Picked.{safe_there, bad_there}
use Rattle.spans.proofs.judge.lowest_picked.Goals as goal
use Rattle.spans.proofs.judge.lowest_picked.Goals.{then-picks+in_default, else-picks}

pub returns-in-Some : goal.returns-in-Some
returns-in-Some g c =
    let p = c.args.platform.now in
    let k = c.loop-number.number in
    let u = c.index-units-number.result in
    let lt : k < length (vec_items p.units) = search rules in
    let is : u ≡ get_or (vec_items p.units) k u = search rules in
    record {
      there = lt;
      picked = at_read (vec_items p.units) (λ v. FnReturnsAt g.F.Fn c.args.picks v true) k u lt is (says_at g.F.Fn c.picks.ensures c.if-picks.true);
      bad = bad_there p c.args.spans.now k u (search rules) lt is (values_of (replicate 4 0)) c.in-Some.values c.in-Some.ensures;
      lowest = c.loop-number.invariant;
    }

pub loop-number-preserved : goal.loop-number-preserved
loop-number-preserved g c =
    let p = c.args.platform.now in
    let k = c.loop-number.number in
    let u = c.index-units-number.result in
    let lt : k < length (vec_items p.units) = search rules in
    let is : u ≡ get_or (vec_items p.units) k u = search rules in
    let Left : Unit → Type 0 = λ v. FnReturnsAt g.F.Fn c.args.picks v false ⊎ SafeFor p.rails c.args.spans.now (device v) in
    AllWithin-more Left (vec_items p.units) 0 k c.loop-number.invariant (at_read (vec_items p.units) Left k u lt is (elim c.if-picks.branch [
      | then-picks+in_default w ↦ inr (safe_there p c.args.spans.now k u (search rules) lt is (values_of (replicate 4 0)) w.in_default.ensures)
      | else-picks w ↦ inl (says_at g.F.Fn c.picks.ensures w.if-picks.false)
    ]))

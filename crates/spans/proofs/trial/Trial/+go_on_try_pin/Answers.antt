use Rattle.std.proofs.Common.{ℕ, ◌+◌, ◌≤◌, vec_items, ap, arith, rules}
use Rattle.std.proofs.lemmas.List.{get_or_read}
use Rattle.platform.specs.declared.parts.Pin.{Pin}
use Rattle.platform.specs.Units.{bounds_at, no_pin}
use Rattle.platform.specs.Devices.{device}
use Rattle.spans.specs.Searching.{values_of}
use Rattle.spans.proofs.Steps.{Lower, tried_bad, tried_lower}
use Rattle.spans.proofs.trial.Trial.+go_on_try_pin.Goals as goal
use Rattle.spans.proofs.trial.Trial.+go_on_try_pin.Goals.{try_pin-After-reach-far}

pub try_pin-returns-in-Some : goal.try_pin-returns-in-Some
try_pin-returns-in-Some t c =
    let s = c.args.self.now in
    tried_bad (device s.unit.now) s.spans.now s.values s.pin c.loop-value.value (omega (arith, c.requires, s.unit.now.pins_counted.1)) (values_of c.in-Some.bad) c.loop-value.invariant.1 c.in-Some.ensures

-- the values up to the reach are held
up : (t : ℕ) (c : try_pin-After-reach-far t) → Lower (device c.args.self.now.unit.now) c.args.self.now.spans.now c.args.self.now.pin (values_of c.args.self.now.values) (c.reach-far.result + 1)
up t c =
    let s = c.args.self.now in
    tried_lower (device s.unit.now) s.spans.now s.values s.pin c.loop-value.value (omega (arith, c.requires, s.unit.now.pins_counted.1)) s.alive c.keep-alive.result c.reach-far.result s.held c.keep-alive.ensures c.reach-far.ensures.all c.requires (search rules) c.in_default.ensures c.loop-value.invariant.1

-- and the value tried is among them
past : (t : ℕ) (c : try_pin-After-reach-far t) → c.loop-value.value ≤ c.reach-far.result
past t c =
    c.reach-far.ensures.most c.loop-value.value c.loop-value-test.true (λ m h on. ((c.keep-alive.ensures m h).0 on).1.1)

pub try_pin-returns-then-far-high : goal.try_pin-returns-then-far-high
try_pin-returns-then-far-high t c ws inside alike =
    let s = c.args.self.now in
    up t (goal.at.try_pin-returns-then-far-high t c).After-reach-far ws inside alike (omega (arith, (inside s.pin c.requires).1, c.if-far-high.true, ap (λ (p : Pin). (bounds_at s.spans.now p.rail).high) (get_or_read (vec_items s.unit.now.pins) s.pin c.index.result.now c.requires c.index.ensures no_pin)))

pub try_pin-loop-value-smaller : goal.try_pin-loop-value-smaller
try_pin-loop-value-smaller t c = omega (arith, past t (goal.at.try_pin-loop-value-smaller t c).After-reach-far, c.loop-value-test.true)

pub try_pin-loop-value-preserved : goal.try_pin-loop-value-preserved
try_pin-loop-value-preserved t c =
    let here = (goal.at.try_pin-loop-value-preserved t c).After-reach-far in
    (omega (arith, c.loop-value.invariant.0, past t here), up t here)

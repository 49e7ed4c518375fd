use Rattle.std.proofs.Common.{◌≡◌, length, set, ap, ◌∙◌, arith, rules}
use Rattle.std.proofs.lemmas.List.{get_or_default, length_push}
use Rattle.std.proofs.lemmas.Slice.Zip.{zip_turn, zip_end}
use Rattle.std.specs.Iterator.Adapters.{zip_second}
use Rattle.std.specs.Slice.Iter.{iter_rest}
use Rattle.platform.specs.declared.parts.Mode.{Mode}
use Rattle.platform.specs.Units.{bounds_at, mode_at, no_mode, no_pin, no_bounds, rail_at, pin_bounds}
use Rattle.platform.specs.Devices.{device}
use Rattle.settling.specs.Narrowing.{shared}
use Rattle.settling.proofs.Holds.{pin_more}
use Rattle.settling.proofs.windows.narrowed.Goals as goal

pub loop-pin-preserved : goal.loop-pin-preserved
loop-pin-preserved c =
    let u = device c.args.unit.now in
    let m = c.args.mode in
    let p = length c.loop-pin.yielded in
    let left = c.loop-pin.left in
    let chosen = c.index.ensures ∙ get_or_default u.modes m _ no_mode c.requires in
    let bounds = ap (λ z. iter_rest (zip_second z)) c.into_iter-pin-iterator.ensures.into_iter_gives ∙ c.zip-pin-items.ensures.second.0 ∙ ap (λ (x : Mode). x.bounds) chosen in
    let turn = zip_turn u.pins (mode_at u m).bounds c.loop-pin.yielded c.into_iter-pin-iterator.result c.loop-pin.pin-iterator c.next.new.self c.next.result (cc) bounds c.loop-pin.yielded_by (c.in-Some.pin, c.in-Some.allowed) c.in-Some.is c.next.ensures.steps in
    let pin = turn.2 no_pin in
    let allowed = turn.3 no_bounds in
    let more = pin_more u m p c.args.windows left c.loop-pin.invariant.sized (c.args.unit.now.wired p turn.0) c.loop-pin.invariant.hold in
    let e : set left (rail_at u p) (shared (bounds_at left (rail_at u p)) (pin_bounds u m p)) ≡ set left c.in-Some.pin.now.rail c.common.result = cc in
    let next = length_push c.loop-pin.yielded (c.in-Some.pin, c.in-Some.allowed) in
    record { sized = search rules; hold = rw (next, ← e) more }

pub returns : goal.returns
returns c =
    let u = device c.args.unit.now in
    let m = c.args.mode in
    let chosen = c.index.ensures ∙ get_or_default u.modes m _ no_mode c.requires in
    let bounds = ap (λ z. iter_rest (zip_second z)) c.into_iter-pin-iterator.ensures.into_iter_gives ∙ c.zip-pin-items.ensures.second.0 ∙ ap (λ (x : Mode). x.bounds) chosen in
    let end = zip_end u.pins (mode_at u m).bounds c.loop-pin.yielded c.into_iter-pin-iterator.result c.loop-pin.pin-iterator c.next.new.self c.next.result (cc) bounds c.loop-pin.yielded_by c.in-None.is c.next.ensures.steps in
    let four : length c.index.result.now.bounds ≡ 4 = search rules in
    let all : length c.loop-pin.yielded ≡ length u.pins = omega (arith, end, ap (λ (x : Mode). length x.bounds) chosen, c.args.unit.now.pins_counted.1) in
    rw all at c.loop-pin.invariant.hold

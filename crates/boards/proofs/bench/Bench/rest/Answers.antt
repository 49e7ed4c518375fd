use Rattle.std.proofs.Common.{ℕ, ◌<◌, length, arith, rules}
use Rattle.std.proofs.lemmas.List.{length_push}
use Rattle.std.proofs.lemmas.Result.{err_from_is_err_and}
use Rattle.boards.proofs.Tables.{found_at, found_all, one_more_at, unmakable, Rested}
use Rattle.boards.proofs.bench.Bench.rest.Goals as goal

pub returns-in_err-self : goal.returns-in_err-self
returns-in_err-self g c =
    let rail = g.R.Rail in
    let f = found_at c.args.settings.now c.args.first.now.values c.args.self.now.count c.into_iter-i-iterator.result c.loop-i.i-iterator c.next.new.self c.loop-i.yielded _ (c.in-Some.i, (c.in-Some.setting, c.in-Some.mv)) (omega (arith, c.args.self.now.counted.1)) (omega (arith, c.args.self.now.counted.1)) (search rules) (search rules) (search rules) c.loop-i.yielded_by c.in-Some.is c.next.ensures.steps in
    let p = err_from_is_err_and c.from_residual.result c.from_residual.ensures.1 in
    let unfit = c.in_err-self.ensures in
    rw (p.1, p.2) (unfit.0, unmakable rail.unset rail.suits rail.CEILING c.args.self.now.count c.args.settings.now c.args.first.now.values (length c.loop-i.yielded) _ _ f.below (f.key rail.unset) (f.value 0) unfit.1)

pub offset_bounds-self-i : goal.offset_bounds-self-i
offset_bounds-self-i g c =
    let f = found_at c.args.settings.now c.args.first.now.values c.args.self.now.count c.into_iter-i-iterator.result c.loop-i.i-iterator c.next.new.self c.loop-i.yielded _ (c.in-Some.i, (c.in-Some.setting, c.in-Some.mv)) (omega (arith, c.args.self.now.counted.1)) (omega (arith, c.args.self.now.counted.1)) (search rules) (search rules) (search rules) c.loop-i.yielded_by c.in-Some.is c.next.ensures.steps in
    omega (arith, f.index, f.below, c.args.self.now.counted.1)

pub listed : goal.listed
listed g c =
    let f = found_at c.args.settings.now c.args.first.now.values c.args.self.now.count c.into_iter-i-iterator.result c.loop-i.i-iterator c.next.new.self c.loop-i.yielded _ (c.in-Some.i, (c.in-Some.setting, c.in-Some.mv)) (omega (arith, c.args.self.now.counted.1)) (omega (arith, c.args.self.now.counted.1)) (search rules) (search rules) (search rules) c.loop-i.yielded_by c.in-Some.is c.next.ensures.steps in
    omega (arith, f.index, f.below, c.args.self.now.counted.1)

pub loop-i-preserved : goal.loop-i-preserved
loop-i-preserved g c =
    let rail = g.R.Rail in
    let f = found_at c.args.settings.now c.args.first.now.values c.args.self.now.count c.into_iter-i-iterator.result c.loop-i.i-iterator c.next.new.self c.loop-i.yielded _ (c.in-Some.i, (c.in-Some.setting, c.in-Some.mv)) (omega (arith, c.args.self.now.counted.1)) (omega (arith, c.args.self.now.counted.1)) (search rules) (search rules) (search rules) c.loop-i.yielded_by c.in-Some.is c.next.ensures.steps in (
      search rules,
      search rules,
      search rules,
      one_more_at (Rested rail.unset rail.suits rail.CEILING rail.rests c.args.settings.now c.args.first.now.values) c.loop-i.self.rails (length c.loop-i.yielded) c.in-Some.i _ c.in_ok-self.field-0 rail.blank f.index (length_push c.loop-i.yielded _) (omega (arith, f.below, c.args.self.now.counted.1)) c.loop-i.invariant.3 (rw (← f.key rail.unset, ← f.value 0) c.in_ok-self.ensures),
    )

pub returns : goal.returns
returns g c =
    let e = found_all c.args.settings.now c.args.first.now.values c.args.self.now.count c.into_iter-i-iterator.result c.loop-i.i-iterator c.next.new.self c.loop-i.yielded _ (omega (arith, c.args.self.now.counted.1)) (omega (arith, c.args.self.now.counted.1)) (search rules) (search rules) (search rules) c.loop-i.yielded_by c.in-None.is c.next.ensures.steps in
    let rested = λ (i : ℕ) (h : i < c.args.self.now.count). c.loop-i.invariant.3 i (omega (arith, e)) in (
      record { counted = c.args.self.now.counted; ranged = λ i h. (rested i h).0.0; low = λ i h. (rested i h).0.1 },
      record { count = c.loop-i.invariant.2; rails = λ i h. (rested i h).1 },
    )

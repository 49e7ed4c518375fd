use Rattle.std.proofs.Common.{ℕ, ◌-◌, ◌^◌, ◌≡◌, refl, sym, ap, subst, ◌∙◌, arith, length-set, pow_pos}
use Rattle.std.specs.Int.Count.{ones-ones}
use Rattle.ordering.specs.Sets.{count}
use Rattle.ordering.specs.Filling.{mixes, units_of}
use Rattle.ordering.proofs.Reading.{Rest, tail, read_begin, read_some, read_ones, read_below, read_step, read_end}
use Rattle.ordering.proofs.search.Search.read_back.Goals as goal

pub loop-rail-init : goal.loop-rail-init
loop-rail-init c =
    let s = c.args.self.now in
    let x = mixes s.change in
    let e = c.size-set.ensures in (
      refl,
      omega (arith, e, pow_pos (count x)),
      rw e c.requires.one,
      rw (e, s.counted) (ones-ones (count x)),
      omega arith,
      subst (λ (k : ℕ). Rest (units_of s.change) x (k - 1) (tail _ (s.changed - s.changed) s.changed)) (sym (e ∙ ap (λ (n : ℕ). 2 ^ n) (sym s.counted))) (read_begin (units_of s.change) x _ s.changed s.counted),
    )

pub overflow_sub-left : goal.overflow_sub-left
overflow_sub-left c =
    let s = c.args.self.now in
    let found = c.in-Some.ensures.1 in
    read_some (units_of s.change) (mixes s.change) c.loop-rail.rails c.args.table.now s.changed c.loop-rail.left c.loop-rail.set c.in-Some.rail found.0 found.1 c.loop-rail.invariant.3

pub loop-rail-preserved : goal.loop-rail-preserved
loop-rail-preserved c =
    let s = c.args.self.now in
    let x = mixes s.change in
    let units = units_of s.change in
    let inv = c.loop-rail.invariant in
    let rails = c.loop-rail.rails in
    let t = c.args.table.now in
    let n = s.changed in
    let left = c.loop-rail.left in
    let set = c.loop-rail.set in
    let r = c.in-Some.rail in
    let p = c.in-Some.ensures.1.0 in
    let l = c.in-Some.ensures.1.1 in
    let e : set - c.alone-set.result ≡ p = omega (arith, l.is, c.alone-set.ensures) in (
      length-set rails (left - 1) r ∙ inv.0,
      rw e (omega (arith, inv.1, read_below units x rails t n left set r p l inv.3)),
      rw e l.one,
      rw e (read_ones units x rails t n left set r p l inv.3),
      omega (arith, inv.4),
      rw e (read_step units x rails t n left set r p l inv.3 inv.4 (omega (arith, inv.4, inv.0, s.few)) inv.5),
    )

pub returns : goal.returns
returns c =
    let s = c.args.self.now in
    read_end (units_of s.change) (mixes s.change) c.loop-rail.rails s.changed c.loop-rail.left c.loop-rail.set c.in_default.ensures c.loop-rail.invariant.3 c.loop-rail.invariant.5

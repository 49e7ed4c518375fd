use Rattle.std.proofs.Common.{◌≡◌, length, take, subst, inl, inr, refl, arith}
use Rattle.std.proofs.lemmas.List.{length-take-le}
use Rattle.histories.specs.declared.run.Call.TheVariants.{Advance}
use Rattle.runs.proofs.Outcomes.{not_open}
use Rattle.promises.specs.Chains.{Noted}
use Rattle.promises.proofs.Noting.{noted_none, noted_next}
use Rattle.rehearsals.proofs.running.make_calls.Goals as goal

pub loop-i-init : goal.loop-i-init
loop-i-init g c = (c.requires, noted_none g.B.Board c.args.run.now c.args.board.now c.args.calls.now c.args.log.now)

pub returns-then-not-is_open : goal.returns-then-not-is_open
returns-then-not-is_open g c =
    let v = c.loop-i.invariant in
    let whole : length (take c.min-room.result c.args.calls.now) ≡ c.min-room.result = length-take-le c.min-room.result c.args.calls.now (omega (arith, c.min-room.ensures)) in
    record {
      whole = inr (omega (arith, c.loop-i-test.true, whole, c.min-room.ensures), not_open c.make_call-outcome.new.run c.if-not-is_open.ensures.1);
      noted = noted_next g.B.Board c.args.run.now c.args.board.now c.args.calls.now c.args.log.now c.loop-i.log c.min-room.result c.loop-i.i c.loop-i.run c.make_call-outcome.new.run c.loop-i.board c.make_call-outcome.new.board Advance c.note.result c.make_call-outcome.result
          (omega (arith, c.min-room.ensures, c.loop-i.auto.log)) c.loop-i-test.true v.0 v.1 c.make_call-outcome.ensures c.note.ensures.outcome c.note.ensures.shows;
    }

pub loop-i-preserved : goal.loop-i-preserved
loop-i-preserved g c =
    let v = c.loop-i.invariant in (
      c.if-not-is_open.ensures.0 refl,
      noted_next g.B.Board c.args.run.now c.args.board.now c.args.calls.now c.args.log.now c.loop-i.log c.min-room.result c.loop-i.i c.loop-i.run c.make_call-outcome.new.run c.loop-i.board c.make_call-outcome.new.board Advance c.note.result c.make_call-outcome.result
          (omega (arith, c.min-room.ensures, c.loop-i.auto.log)) c.loop-i-test.true v.0 v.1 c.make_call-outcome.ensures c.note.ensures.outcome c.note.ensures.shows,
    )

pub returns : goal.returns
returns g c =
    let whole : length (take c.min-room.result c.args.calls.now) ≡ c.min-room.result = length-take-le c.min-room.result c.args.calls.now (omega (arith, c.min-room.ensures)) in
    let e : c.loop-i.i ≡ c.min-room.result = omega (arith, c.loop-i-test.false, c.loop-i.auto.i-end, whole) in
    record {
      whole = inl c.min-room.ensures;
      noted = subst (λ n. Noted g.B.Board c.args.run.now c.args.board.now c.args.calls.now c.args.log.now c.loop-i.log n c.loop-i.run c.loop-i.board) e c.loop-i.invariant.1;
    }

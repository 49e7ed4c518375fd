use Rattle.std.proofs.Common.{◌≡◌, ◌<◌, [], length, take, sym, refl, ◌∙◌, arith}
use Rattle.std.proofs.lemmas.List.{length-take-le, get_or-take}
use Rattle.histories.specs.declared.rail.Rail.TheVariants.{Still}
use Rattle.openings.specs.Runs.{none}
use Rattle.runs.specs.declared.journey.Journey.{Journey}
use Rattle.runs.proofs.Turns.{towards_low, restart_pass, restart_send}
use Rattle.runs.proofs.journey.Journey.restart.Goals as goal
use Rattle.runs.proofs.journey.Journey.restart.Goals.{in-Moving, in_default}

-- as many records are gone through as there are rails
counted : (j : Journey) → length (take j.rails j.records) ≡ j.rails
counted j = length-take-le j.rails j.records (omega (arith, j.few, j.sized))

pub loop-rail-init : goal.loop-rail-init
loop-rail-init g c = (refl, refl, ([], none))

pub send-requires : goal.send-requires
send-requires g c =
    let j = c.args.self.now in
    let i = c.loop-rail.rail in
    let lt : i < j.rails = omega (arith, c.loop-rail-test.true, counted j) in
    record {
      rail = omega (arith, lt, c.loop-rail.invariant.0, c.requires.counted);
      low = omega (arith, c.end_towards.ensures, towards_low g.B.Board j c.args.board.now c.requires c.args.direction i c.in-Moving.origin c.in-Moving.target lt (sym (j.recorded i lt) ∙ sym (get_or-take j.rails j.records i (Still 0) lt) ∙ c.in-Moving.is));
    }

pub loop-rail-preserved : goal.loop-rail-preserved
loop-rail-preserved g c =
    let j = c.args.self.now in
    let i = c.loop-rail.rail in
    let v = c.loop-rail.invariant in
    let lt : i < j.rails = omega (arith, c.loop-rail-test.true, counted j) in
    let was = sym (j.recorded i lt) ∙ sym (get_or-take j.rails j.records i (Still 0) lt) in
    elim c.match-record.branch [
      | in-Moving w ↦ rw w.board-is (
        w.send.ensures.rails ∙ v.0,
        w.send.ensures.patience ∙ v.1,
        restart_send w.in-Moving.origin w.in-Moving.target w.end_towards.result (was ∙ w.in-Moving.is) w.end_towards.ensures w.send.ensures v.2,
      )
      | in_default w ↦ rw w.board-is (v.0, v.1, restart_pass w.in_default.field-0 (was ∙ w.in_default.is) v.2)
    ]

pub returns : goal.returns
returns g c =
    let e : c.loop-rail.rail ≡ c.args.self.now.rails = omega (arith, c.loop-rail-test.false, c.loop-rail.auto.rail-end, counted c.args.self.now) in
    rw e at c.loop-rail.invariant.2

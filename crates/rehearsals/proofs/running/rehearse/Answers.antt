use Rattle.platform.specs.Making.{model_of}
use Rattle.platform.specs.Rules.{Sound}
use Rattle.promises.proofs.Promises.{promised}
use Rattle.rehearsals.proofs.running.rehearse.Goals as goal

pub make_calls-requires : goal.make_calls-requires
make_calls-requires g c = let new = c.in_ok-open.ensures.2 in (new.journey, new.is)

pub returns : goal.returns
returns g c =
    let p = c.args.proposal.now.platform.now in
    let b = c.args.board.now in
    let opens = c.in_ok-open.ensures in
    let sound : Sound (model_of p).rails (model_of p).units = record {
      rails_counted = p.rails_counted;
      units_counted = p.units_counted;
      pins_counted = p.pins_counted;
      modes_counted = p.modes_counted;
      wired = p.wired;
      apart = p.apart;
      mild = p.mild;
      cool = p.cool;
      level = p.level;
      driven = p.driven;
    } in (
      (c.open.new.self, opens),
      promised g.B.Board (model_of p) c.args.proposal.now.first.now c.args.proposal.now.script.now b sound (g.met.B.Board.stands b) opens.1 c.args.calls.now c.args.log.now c.make_calls.new.log c.make_calls.result c.open.new.self c.make_calls.new.run c.make_calls.new.board opens.2 c.make_calls.ensures.whole c.make_calls.ensures.noted,
    )

use Rattle.std.proofs.Common.{arith, rules}
use Rattle.platform.specs.Units.{value_of}
use Rattle.histories.specs.declared.rail.Rail.TheVariants.{Still}
use Rattle.runs.proofs.Forms.{formed_short, formed_rails}
use Rattle.runs.proofs.journey.Journey.begun.Goals as goal

pub copied-requires : goal.copied-requires
copied-requires c =
    let p = c.args.proposal.now in
    formed_short p.platform.now.rails (value_of p.first.now.values) p.script.now c.requires

pub invariant_of-result : goal.invariant_of-result
invariant_of-result c =
    let p = c.args.proposal.now in
    record {
      few = omega (arith, c.rails.ensures, p.platform.now.rails_counted.1);
      within = omega arith;
      sized = c.map.ensures.items.long;
      known = rw (c.rails.ensures, c.copied.ensures) (formed_rails p.platform.now.rails (value_of p.first.now.values) p.script.now c.requires);
      recorded = λ i lt.
          let made = c.map.ensures.items.at i 0 (Still 0) (omega (arith, lt, c.rails.ensures, p.platform.now.rails_counted.1)) in
          search rules;
    }

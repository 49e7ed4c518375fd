use Rattle.std.proofs.Common.{arith}
use Rattle.ordering.specs.Filling.{mixes, units_of}
use Rattle.ordering.proofs.Filling.{fill_begin}
use Rattle.ordering.proofs.Trying.{rest_safe, sound_of}
use Rattle.platform.specs.Making.{model_of}
use Rattle.ordering.proofs.search.Search.fill.Goals as goal

pub sweep-requires : goal.sweep-requires
sweep-requires c =
    let s = c.args.self.now.change in
    let p = s.platform.now in
    fill_begin (units_of s) (mixes s) (rest_safe (model_of p) (sound_of p) s.first.now.values c.requires.rests) c.clear.new.table (omega (arith, c.requires.table, c.clear.auto.table)) (λ i l. c.clear.ensures.none i (omega (arith, l, c.size.ensures)))

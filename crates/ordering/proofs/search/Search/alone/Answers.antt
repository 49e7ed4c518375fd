use Rattle.std.proofs.Common.{ℕ, ◌^◌, ◌%◌, ◌*◌, ap, ◌∙◌, arith, pow_mono}
use Rattle.ordering.proofs.Places.{place_short, place_low, rail_low}
use Rattle.ordering.proofs.search.Search.alone.Goals as goal

pub overflow_shl-result : goal.overflow_shl-result
overflow_shl-result c = place_short c.args.self.now c.args.rail (rail_low c.args.self.now c.args.rail c.requires)

pub returns : goal.returns
returns c =
    let s = c.args.self.now in
    ap (λ (j : ℕ). 1 * 2 ^ j % 18446744073709551616) (s.placed c.args.rail (rail_low s c.args.rail c.requires)) ∙ omega (arith, pow_mono (place_low s c.args.rail c.requires))

use Rattle.std.proofs.Common.{◌≡◌, ◌++◌, string_bytes, ap, ◌∙◌, append_assoc, arith}
use Rattle.std.specs.List.{range_with_len, flat_map}
use Rattle.std.proofs.lemmas.List.{get_or-take}
use Rattle.platform.specs.Units.{no_bounds}
use Rattle.listings.specs.Texts.{rail_line}
use Rattle.listings.proofs.Lines.{lines_more}
use Rattle.listings.proofs.write.rail_lines.Goals as goal

pub loop-rail-preserved : goal.loop-rail-preserved
loop-rail-preserved g c = lines_more (rail_line c.args.choice.now.windows c.args.choice.now.targets.values) (string_bytes c.args.out.now) c.loop-rail.rail-counter c.loop-rail.invariant (c.in_ok-writeln.ensures.bytes ∙ simp (append_assoc, get_or-take c.rails-rails.result c.args.choice.now.windows c.loop-rail.rail-counter no_bounds (omega arith)))

pub returns : goal.returns
returns g c =
    let e : c.loop-rail.rail-counter ≡ c.rails-rails.result = omega arith in
    c.loop-rail.invariant ∙ ap (λ n. string_bytes c.args.out.now ++ flat_map (rail_line c.args.choice.now.windows c.args.choice.now.targets.values) (range_with_len 0 n)) (e ∙ c.rails-rails.ensures)

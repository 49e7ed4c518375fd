use Rattle.std.proofs.Common.{◌≡◌, ◌++◌, length, vec_items, string_bytes, sym, ap, ◌∙◌, append_assoc, arith}
use Rattle.std.specs.List.{range_with_len, flat_map}
use Rattle.std.proofs.lemmas.List.{get_or-take}
use Rattle.platform.proofs.Checking.{as_many}
use Rattle.listings.specs.Texts.{unit_line}
use Rattle.listings.proofs.Lines.{lines_more}
use Rattle.listings.proofs.write.unit_lines.Goals as goal

pub loop-unit-preserved : goal.loop-unit-preserved
loop-unit-preserved g c = lines_more (unit_line c.args.choice.now.modes) (string_bytes c.args.out.now) c.loop-unit.unit-counter c.loop-unit.invariant (c.in_ok-writeln.ensures.bytes ∙ simp (append_assoc, get_or-take (length c.units-units.result.now) c.args.choice.now.modes c.loop-unit.unit-counter 0 (omega arith)))

pub returns : goal.returns
returns g c =
    let e : c.loop-unit.unit-counter ≡ length c.units-units.result.now = omega arith in
    c.loop-unit.invariant ∙ ap (λ n. string_bytes c.args.out.now ++ flat_map (unit_line c.args.choice.now.modes) (range_with_len 0 n)) (e ∙ ap length c.units-units.ensures.value ∙ sym (as_many (vec_items c.args.platform.now.units)))

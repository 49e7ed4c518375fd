use Rattle.std.proofs.Common.{◌≡◌, ◌++◌, string_bytes}
use Rattle.std.specs.List.{range_with_len, flat_map}
use Rattle.listings.specs.Texts.{unit_line}
use Rattle.listings.proofs.write.unit_lines.Given as goal

abbrev pub invariant-loop-unit : goal.invariant-loop-unit
invariant-loop-unit g l = string_bytes l.out ≡ string_bytes l.initial.out ++ flat_map (unit_line l.choice.modes) (range_with_len 0 l.unit-counter)

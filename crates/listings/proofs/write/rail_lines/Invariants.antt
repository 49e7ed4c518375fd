use Rattle.std.proofs.Common.{◌≡◌, ◌++◌, string_bytes}
use Rattle.std.specs.List.{range_with_len, flat_map}
use Rattle.listings.specs.Texts.{rail_line}
use Rattle.listings.proofs.write.rail_lines.Given as goal

abbrev pub invariant-loop-rail : goal.invariant-loop-rail
invariant-loop-rail g l = string_bytes l.out ≡ string_bytes l.initial.out ++ flat_map (rail_line l.choice.windows l.choice.targets.values) (range_with_len 0 l.rail-counter)

use Rattle.std.proofs.Common.{[], ◌∷◌, string_bytes, codes}
use Rattle.std.specs.List.{range_with_len, flat_map}
use Rattle.sheet.specs.Sheets.{line}
use Rattle.listings.specs.Texts.{rail_line}
use Rattle.listings.proofs.Lines.{both}
use Rattle.listings.proofs.write.write_rails.Goals as goal

pub returns : goal.returns
returns g c = both (string_bytes c.args.out.now) (line (codes "rail" ∷ codes "low" ∷ codes "high" ∷ codes "target" ∷ [])) (flat_map (rail_line c.args.choice.now.windows c.args.choice.now.targets.values) (range_with_len 0 c.args.platform.now.rails)) c.in_ok-writeln.ensures.bytes c.in_ok-rail_lines.ensures

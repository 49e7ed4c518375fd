use Rattle.std.proofs.Common.{[], ◌∷◌, length, string_bytes, codes}
use Rattle.std.specs.List.{range_with_len, flat_map}
use Rattle.sheet.specs.Sheets.{line}
use Rattle.platform.specs.Making.{model_of}
use Rattle.listings.specs.Texts.{unit_line}
use Rattle.listings.proofs.Lines.{both}
use Rattle.listings.proofs.write.write_units.Goals as goal

pub returns : goal.returns
returns g c = both (string_bytes c.args.out.now) (line (codes "unit" ∷ codes "mode" ∷ [])) (flat_map (unit_line c.args.choice.now.modes) (range_with_len 0 (length (model_of c.args.platform.now).units))) c.in_ok-writeln.ensures.bytes c.in_ok-unit_lines.ensures

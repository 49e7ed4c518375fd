use Rattle.std.proofs.Common.{[], ◌∷◌, string_bytes, codes, decimal, ◌∙◌, append_assoc}
use Rattle.sheet.specs.Sheets.{line}
use Rattle.listings.proofs.Lines.{both}
use Rattle.listings.proofs.write.write_total.Goals as goal

pub returns : goal.returns
returns c = both (string_bytes c.args.out.now) (line (codes "draw" ∷ codes "heat" ∷ [])) (line (decimal c.args.total.draw ∷ decimal c.args.total.heat ∷ [])) c.in_ok-writeln.ensures.bytes (c.in_ok-writeln-2.ensures.bytes ∙ simp append_assoc)

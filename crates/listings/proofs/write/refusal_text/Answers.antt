use Rattle.std.proofs.Common.{[], ◌∷◌, ◌++◌, codes, decimal, ap, ◌∙◌, append_assoc}
use Rattle.sheet.specs.Sheets.{line}
use Rattle.listings.proofs.Lines.{both}
use Rattle.listings.specs.Texts.{refusal_text}
use Rattle.listings.proofs.write.refusal_text.Goals as goal

pub returns : goal.returns
returns c =
    let r = c.refusal-refusal.result in
    both [] (line (codes "refusal" ∷ codes "sheet" ∷ codes "line" ∷ [])) (line (decimal r.number ∷ decimal r.sheet ∷ decimal r.line ∷ []))
    (c.in_ok-writeln.ensures.bytes ∙ ap (λ l. l ++ line (codes "refusal" ∷ codes "sheet" ∷ codes "line" ∷ [])) c.new-out.ensures.bytes)
    (c.in_ok-writeln-2.ensures.bytes ∙ simp append_assoc)
    ∙ ap refusal_text c.refusal-refusal.ensures

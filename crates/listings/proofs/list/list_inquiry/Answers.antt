use Rattle.std.proofs.Common.{[], ◌++◌, Ok, Err, string_bytes, ap, ◌∙◌, subst, arith}
use Rattle.std.proofs.lemmas.Result.{err_from_is_err_and}
use Rattle.platform.specs.Inquiries.{inquiry_of}
use Rattle.settling.specs.Sums.{draw_toll, heat_toll}
use Rattle.settling.specs.Settling.{Settles}
use Rattle.listings.specs.Texts.{settled_text}
use Rattle.listings.proofs.Lines.{both}
use Rattle.listings.proofs.Listed.{at_draw, at_heat, asked_text}
use Rattle.listings.proofs.list.list_inquiry.Goals as goal

pub returns-in_err-draw : goal.returns-in_err-draw
returns-in_err-draw c =
    let p = err_from_is_err_and c.from_residual.result c.from_residual.ensures.1 in
    let q = inquiry_of c.args.inquiry.now in
    rw (p.1, p.2) (λ h. at_draw q _ (subst (λ ds. Settles draw_toll q.model.rails q.model.units ds (Err c.in_err-draw.field-0.0)) c.deref.ensures.value c.in_err-draw.ensures))

pub returns-in_err-heat : goal.returns-in_err-heat
returns-in_err-heat c =
    let p = err_from_is_err_and c.from_residual-in_err-heat.result c.from_residual-in_err-heat.ensures.1 in
    let q = inquiry_of c.args.inquiry.now in
    rw (p.1, p.2) (λ h. at_heat q c.in_ok-draw.draw (subst (λ ds. Settles draw_toll q.model.rails q.model.units ds (Ok c.in_ok-draw.draw)) c.deref.ensures.value c.in_ok-draw.ensures) _ (subst (λ ds. Settles heat_toll q.model.rails q.model.units ds (Err c.in_err-heat.field-0.0)) c.deref-2.ensures.value c.in_err-heat.ensures))

pub returns-in_err-write_choice : goal.returns-in_err-write_choice
returns-in_err-write_choice c = let p = err_from_is_err_and c.from_residual-in_err-write_choice.result c.from_residual-in_err-write_choice.ensures.1 in rw (p.1, p.2) (λ none. absurd (omega arith))

pub returns-in_err-write_choice-2 : goal.returns-in_err-write_choice-2
returns-in_err-write_choice-2 c = let p = err_from_is_err_and c.from_residual-in_err-write_choice-2.result c.from_residual-in_err-write_choice-2.ensures.1 in rw (p.1, p.2) (λ none. absurd (omega arith))

pub returns : goal.returns
returns c =
    let q = inquiry_of c.args.inquiry.now in
    let d = c.in_ok-draw.draw in
    let h = c.in_ok-heat.heat in
    asked_text q d (subst (λ ds. Settles draw_toll q.model.rails q.model.units ds (Ok d)) c.deref.ensures.value c.in_ok-draw.ensures)
    h (subst (λ ds. Settles heat_toll q.model.rails q.model.units ds (Ok h)) c.deref-2.ensures.value c.in_ok-heat.ensures)
    (string_bytes c.write_choice-2.new.out)
    (both [] (settled_text q.model d) (settled_text q.model h) (c.in_ok-write_choice.ensures ∙ ap (λ l. l ++ settled_text q.model d) c.new-out.ensures.bytes) c.in_ok-write_choice-2.ensures)

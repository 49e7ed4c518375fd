use Rattle.std.proofs.Common.{string_bytes}
use Rattle.std.proofs.lemmas.Result.{err_from_is_err_and}
use Rattle.platform.specs.Inquiries.{inquiry_of}
use Rattle.sheets.specs.Fours.{four_of}
use Rattle.listings.proofs.Listed.{at_input, at_inquiry, at_asked, listed}
use Rattle.listings.proofs.list.listing_of.Goals as goal

pub returns-in_err-four : goal.returns-in_err-four
returns-in_err-four c = let p = err_from_is_err_and c.from_residual.result c.from_residual.ensures.1 in rw (p.1, p.2) (λ h. at_input c.args.input.now _ c.in_err-four.ensures)

pub returns-in_err-inquiry : goal.returns-in_err-inquiry
returns-in_err-inquiry c =
    let p = err_from_is_err_and c.from_residual-in_err-inquiry.result c.from_residual-in_err-inquiry.ensures.1 in
    rw (p.1, p.2) (λ h. at_inquiry c.args.input.now (four_of c.in_ok-four.four) c.in_ok-four.ensures _ (c.in_err-inquiry.ensures h))

pub returns-in_err-text : goal.returns-in_err-text
returns-in_err-text c =
    let p = err_from_is_err_and c.from_residual-in_err-text.result c.from_residual-in_err-text.ensures.1 in
    rw (p.1, p.2) (λ h. at_asked c.args.input.now (four_of c.in_ok-four.four) c.in_ok-four.ensures (inquiry_of c.in_ok-inquiry.inquiry) c.in_ok-inquiry.ensures _ (c.in_err-text.ensures h))

pub returns : goal.returns
returns c = listed c.args.input.now (four_of c.in_ok-four.four) c.in_ok-four.ensures (inquiry_of c.in_ok-inquiry.inquiry) c.in_ok-inquiry.ensures (string_bytes c.in_ok-text.text) c.in_ok-text.ensures

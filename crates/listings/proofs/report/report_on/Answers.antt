use Rattle.std.proofs.Common.{◌≤◌, refl, ap, ◌∙◌, ⊎_elim, arith}
use Rattle.std.proofs.lemmas.Bool.{cases_lt}
use Rattle.faults.specs.Numbers.{listing_refusal}
use Rattle.listings.specs.Texts.{refusal_text}
use Rattle.listings.specs.Reports.{stopped, starved}
use Rattle.listings.proofs.Starved.{starved_says}
use Rattle.listings.proofs.report.report_on.Goals as goal

pub returns-in_ok-refusal_text-in-Err : goal.returns-in_ok-refusal_text-in-Err
returns-in_ok-refusal_text-in-Err c =
    let f = c.in-Err.fault in
    let is = c.in_ok-refusal_text-in-Err.ensures in
    ⊎_elim
    (λ numbered. stopped refl f (c.in-Err.ensures numbered) is)
    (λ (none : (listing_refusal f).number ≤ 0). starved refl (is ∙ ap refusal_text (starved_says f (omega arith))))
    (cases_lt 0 (listing_refusal f).number)

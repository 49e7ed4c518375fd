-- Making a platform has one outcome, and what is made keeps the rules. Assumes nothing.
use Rattle.std.proofs.Common.{◌≡◌, ℕ, ◌≤◌, List, length, Ok, Err, Result, sym, ap, ◌∙◌, subst, ⊎_elim}
use Rattle.std.proofs.lemmas.Bool.{cases_order}
use Rattle.answers.specs.Sequels.{One, Only}
use Rattle.answers.proofs.Sequels.{only_one}
use Rattle.sheets.specs.Reading.{Rows, Kept}
use Rattle.faults.specs.declared.platform.PlatformFault.{PlatformFault}
use Rattle.faults.specs.declared.platform.PlatformFault.TheVariants.{Sheet, Twice, Driver, Memory}
use Rattle.platform.specs.Units.{Device}
use Rattle.platform.specs.Rules.{Each, PinsCounted, ModesCounted, Wired, Apart, Mild, Cool, Level, Driven}
use Rattle.platform.specs.Describing.{Model, described}
use Rattle.platform.specs.Making.{LowestTwice, LowestUndriven, Makes}
use Rattle.platform.proofs.Regular.{regular}

same_unit : (units : List Device) (u v : ℕ) → LowestTwice units u → LowestTwice units v → u ≡ v
same_unit units u v h g = ⊎_elim (λ e. e) (⊎_elim (λ lt. absurd (h.twice (g.lowest u lt))) (λ gt. absurd (g.twice (h.lowest v gt)))) (cases_order u v)

same_rail : (rails : ℕ) (units : List Device) (r s : ℕ) → LowestUndriven rails units r → LowestUndriven rails units s → r ≡ s
same_rail rails units r s h g = ⊎_elim (λ e. e) (⊎_elim (λ lt. absurd (h.undriven (g.lowest r lt))) (λ gt. absurd (g.undriven (h.lowest s gt)))) (cases_order r s)

pub one_make : (rows : Rows) → One (Makes rows)
one_make rows (Ok a) (Ok b) h g = ap Ok (h.0 ∙ sym g.0)
one_make rows (Ok a) (Err (Sheet e)) h g = absurd g
one_make rows (Ok a) (Err (Twice u)) h g = absurd (g.twice (h.1.apart u g.there))
one_make rows (Ok a) (Err (Driver r)) h g = absurd (g.1.undriven (h.1.driven r g.1.there))
one_make rows (Ok a) (Err Memory) h g = absurd g
one_make rows (Err (Sheet e)) q h g = absurd h
one_make rows (Err (Twice u)) (Ok b) h g = absurd (h.twice (g.1.apart u h.there))
one_make rows (Err (Twice u)) (Err (Sheet e)) h g = absurd g
one_make rows (Err (Twice u)) (Err (Twice v)) h g = ap (λ x. Err (Twice x)) (same_unit (described rows).units u v h g)
one_make rows (Err (Twice u)) (Err (Driver r)) h g = absurd (h.twice (g.0 u h.there))
one_make rows (Err (Twice u)) (Err Memory) h g = absurd g
one_make rows (Err (Driver r)) (Ok b) h g = absurd (h.1.undriven (g.1.driven r h.1.there))
one_make rows (Err (Driver r)) (Err (Sheet e)) h g = absurd g
one_make rows (Err (Driver r)) (Err (Twice u)) h g = absurd (g.twice (h.0 u g.there))
one_make rows (Err (Driver r)) (Err (Driver s)) h g = ap (λ x. Err (Driver x)) (same_rail (described rows).rails (described rows).units r s h.1 g.1)
one_make rows (Err (Driver r)) (Err Memory) h g = absurd g
one_make rows (Err Memory) q h g = absurd h

-- all rules, as the type has them
abbrev Facts : ℕ → List Device → Type 0
Facts rails units =
    ((1 ≤ rails) × (rails ≤ 24))
    × (((1 ≤ length units) × (length units ≤ 24))
    × (Each PinsCounted units
    × (Each ModesCounted units
    × (Each (Wired rails) units
    × (Each Apart units
    × (Each Mild units
    × (Each Cool units
    × (Each Level units
    × (Driven rails units
    × Unit {0})))))))))

-- the units that were built from the rows
module _ (rows : Rows) (units : List Device) (are : units ≡ (described rows).units) where
  only_makes : (r : Result Model PlatformFault) → Makes rows r → Only (Makes rows) r
  only_makes = only_one (Makes rows) (one_make rows)

  pub made_twice : (u : ℕ) → LowestTwice units u → Only (Makes rows) (Err (Twice u))
  made_twice u h = only_makes (Err (Twice u)) (subst (λ us. LowestTwice us u) are h)

  -- and as many rails
  module _ (rails : ℕ) (many : rails ≡ (described rows).rails) (apart : Each Apart units) where
    pub made_undriven : (r : ℕ) → LowestUndriven rails units r → Only (Makes rows) (Err (Driver r))
    made_undriven r h = only_makes (Err (Driver r)) (subst (Each Apart) are apart, subst (λ n. LowestUndriven n (described rows).units r) many (subst (λ us. LowestUndriven rails us r) are h))

    pub made : Driven rails units → Only (Makes rows) (Ok (record { rails = rails; units = units }))
    made driven =
        only_makes (Ok (record { rails = rails; units = units })) (
          (λ i. record { rails = many i; units = are i }),
          record { apart = subst (Each Apart) are apart; driven = subst (λ n. Driven n (described rows).units) many (subst (Driven rails) are driven) },
        )

  pub few : ∥ Kept rows.pins rows.modes rows.bounds rows.demands ∥₁ → (length units ≤ 24) × Each PinsCounted units
  few kept = let r = regular rows kept in subst (λ us. (length us ≤ 24) × Each PinsCounted us) (sym are) (r.1.0.1, r.1.1.0)

  pub facts : (rails : ℕ) → rails ≡ (described rows).rails → ∥ Kept rows.pins rows.modes rows.bounds rows.demands ∥₁ → Each Apart units → Driven rails units → Facts rails units
  facts rails many kept apart driven =
      let r = regular rows kept in
      let R : ℕ → List Device → Type 0 = λ n us.
      ((1 ≤ n) × (n ≤ 24)) × (((1 ≤ length us) × (length us ≤ 24)) × (Each PinsCounted us × (Each ModesCounted us × (Each (Wired n) us × (Each Mild us × (Each Cool us × Each Level us)))))) in
      let here = subst (λ n. R n units) (sym many) (subst (R (described rows).rails) (sym are) r) in
      (here.0, (here.1.0, (here.1.1.0, (here.1.1.1.0, (here.1.1.1.1.0, (apart, (here.1.1.1.1.1.0, (here.1.1.1.1.1.1.0, (here.1.1.1.1.1.1.1, (driven, tt))))))))))

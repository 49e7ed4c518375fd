use Rattle.std.proofs.Common.{◌≡◌, ℕ, ◌<◌, [], ◌∷◌, sym, refl, subst, ⊎_elim, arith, lit<, lit≤}
use Rattle.std.proofs.lemmas.List.{get_or_past}
use Rattle.std.proofs.lemmas.Bool.{cases_lt}
use Rattle.platform.specs.Units.{Device, InMode, value_of}
use Rattle.spans.specs.Safety.{SafeFor, pin_values, BadValues}
use Rattle.spans.specs.Cases.{from_to, two_modes}
use Rattle.spans.proofs.theorems.worked_cases.Goals as goal

-- one pin, and two modes
one : (P : ℕ → Type 0) → P 0 → (p : ℕ) → p < 1 → P p
one P h p lt = let e : p ≡ 0 = omega arith in subst P (sym e) h

two : (P : ℕ → Type 0) → P 0 → P 1 → (m : ℕ) → m < 2 → P m
two P a b m lt = ⊎_elim (λ h. one P a m h) (λ h. let e : m ≡ 1 = omega arith in subst P (sym e) b) (cases_lt m 1)

joined : SafeFor 1 (from_to 0 1650 ∷ []) (two_modes (from_to 0 900) (from_to 901 1950))
joined mix allowed =
    ⊎_elim
    (λ h. (0, (lit< tt, one _ (omega arith, omega arith))))
    (λ h. (1, (lit< tt, one _ (omega arith, omega (arith, (allowed 0 (lit< tt)).1)))))
    (cases_lt (value_of mix 0) 901)

gap : BadValues 1 (from_to 0 1650 ∷ []) (two_modes (from_to 0 500) (from_to 900 1950)) (501 ∷ [])
gap =
    let u : Device = two_modes (from_to 0 500) (from_to 900 1950) in
    record {
      mix = 501 ∷ [];
      first = record {
        allowed = one _ (lit≤ tt, lit≤ tt);
        bad = λ some. two (λ m. InMode u m (501 ∷ []) → ⊥) (λ h. omega (arith, (h 0 (lit< tt)).1)) (λ h. omega (arith, (h 0 (lit< tt)).0)) some.0 some.1.0 some.1.1;
        first = λ other allowed before.
            let e : before.pin ≡ 0 = omega (arith, before.there) in
            let less : value_of other 0 < 501 = subst (λ (p : ℕ). pin_values u other p < pin_values u (501 ∷ []) p) e before.less in
            (0, (lit< tt, one _ (omega arith, omega arith)));
      };
      own = one _ refl;
      past = λ p h. get_or_past (501 ∷ []) p 0 h;
    }

pub returns : goal.returns
returns c = record { joined = joined; gap = gap }

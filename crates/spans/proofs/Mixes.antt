-- From values pin by pin to mixes. Assumes nothing.
use Rattle.std.proofs.Common.{◌≡◌, ℕ, zero, suc, ◌<◌, ◌⊎◌, List, [], ◌∷◌, length, get_or, Some, None, Option, sym, refl, ◌∙◌, subst, inl, inr, ⊎_elim, arith, MatchOption}
use Rattle.std.proofs.lemmas.Bool.{cases_order, cases_eq}
use Rattle.platform.specs.declared.parts.Bounds.{Bounds}
use Rattle.platform.specs.Units.{Device, rail_at, bounds_at, pin_bounds, Within}
use Rattle.platform.specs.Rules.{Wired, Apart}
use Rattle.spans.specs.Safety.{Allowed, SafeFor, pin_values, Alike, Before, BadValues}
use Rattle.spans.specs.Searching.{Open, values_of, Inside, Held, AllHeld, FirstUnheld, Seeks}

first_or : (n : ℕ) (P : ℕ → ℕ → Type 0) (x : ℕ) (xs : List ℕ) → P 0 x → ((k : ℕ) → k < n → P (suc k) (get_or xs k 0)) → (k : ℕ) → k < suc n → P k (get_or (x ∷ xs) k 0)
first_or n P x xs here later zero h = here
first_or n P x xs here later (suc k) h = later k (omega arith)

-- a value for each place below n, as a list
pub listed : (n : ℕ) (P : ℕ → ℕ → Type 0) → ((k : ℕ) → k < n → (m : ℕ) × P k m) → (xs : List ℕ) × ((k : ℕ) → k < n → P k (get_or xs k 0))
listed zero P f = ([], λ k h. absurd (omega arith))
listed (suc n) P f =
    let here = f 0 (omega arith) in
    let later = listed n (λ k. P (suc k)) (λ k h. f (suc k) (omega arith)) in
    (here.0 ∷ later.0, first_or n P here.0 later.0 here.1 later.1)

-- of the first n pins one is on rail r, or none
pub seek : (u : Device) (r n : ℕ) → ((p : ℕ) × ((p < n) × (rail_at u p ≡ r))) ⊎ ((p : ℕ) → p < n → rail_at u p ≡ r → ⊥)
seek u r zero = inr (λ p h _. omega arith)
seek u r (suc n) =
    ⊎_elim
    (λ e. inl (n, (omega arith, e)))
    (λ ne.
    ⊎_elim
    (λ found. inl (found.0, (omega (arith, found.1.0), found.1.1)))
    (λ none. inr (λ p h e. ⊎_elim (λ (same : p ≡ n). ne (subst (λ (q : ℕ). rail_at u q ≡ r) same e)) (λ other. none p (omega arith) e) (cases_eq p n)))
    (seek u r n))
    (cases_eq (rail_at u n) r)

-- two pins on one rail are one
one_pin : (u : Device) → Apart u → (p q : ℕ) → p < length u.pins → q < length u.pins → rail_at u p ≡ rail_at u q → p ≡ q
one_pin u apart p q hp hq e =
    ⊎_elim (λ same. same) (⊎_elim (λ lt. absurd (apart p q (lt, hq, e))) (λ gt. absurd (apart q p (gt, hp, sym e)))) (cases_order p q)

module _ (rails : ℕ) (spans : List Bounds) (u : Device) where
  -- a mix that the spans allow with these values at the unit's pins
  mix_with : Open rails spans → Apart u → (vs : ℕ → ℕ) → Inside u spans (length u.pins) vs → Wired rails u → (mix : List ℕ) × (Allowed rails spans mix × Alike (length u.pins) vs (pin_values u mix))
  mix_with wide apart vs inside wired =
      let P : ℕ → ℕ → Type 0 = λ r v. Within (bounds_at spans r) v × ((p : ℕ) → p < length u.pins → rail_at u p ≡ r → vs p ≡ v) in
      let made = listed rails P (λ r h.
      ⊎_elim
      (λ at. (vs at.0, (subst (λ (q : ℕ). Within (bounds_at spans q) (vs at.0)) at.1.1 (inside at.0 at.1.0), λ p hp e. let same = one_pin u apart p at.0 hp at.1.0 (e ∙ sym at.1.1) in cc)))
      (λ none. ((bounds_at spans r).low, ((omega arith, wide r h), λ p hp e. absurd (none p hp e))))
      (seek u r (length u.pins))) in
      (made.0, (λ r h. (made.1 r h).0, λ p hp. (made.1 (rail_at u p) (wired p hp)).1 p hp refl))

  safe_all : Wired rails u → (vs : ℕ → ℕ) → AllHeld u spans 0 vs → SafeFor rails spans u
  safe_all wired vs held mix allowed = held (pin_values u mix) (λ p h. allowed (rail_at u p) (wired p h)) (λ p h. absurd (omega arith))

  -- modes hold what they hold, however it is given
  pub held_alike : (vs ws : ℕ → ℕ) → Alike (length u.pins) vs ws → Held u vs → Held u ws
  held_alike vs ws alike held = (held.0, (held.1.0, λ p h. subst (λ (x : ℕ). Within (pin_bounds u held.0 p) x) (alike p h) (held.1.1 p h)))

  before_alike : (ws vs xs : ℕ → ℕ) → Alike (length u.pins) vs xs → Before (length u.pins) ws xs → Before (length u.pins) ws vs
  before_alike ws vs xs alike b = record {
    pin = b.pin;
    there = b.there;
    alike = λ p h. b.alike p h ∙ sym (alike p (omega (arith, b.there)));
    less = omega (arith, b.less, alike b.pin b.there);
  }

  bad_first : Open rails spans → Apart u → Wired rails u → (vs : ℕ → ℕ) (bad : List ℕ) → FirstUnheld u spans 0 vs (values_of bad) → BadValues rails spans u bad
  bad_first wide apart wired vs bad f =
      let found = mix_with wide apart (values_of bad) f.inside wired in
      let own = found.1.1 in
      record {
        mix = found.0;
        first = record {
          allowed = found.1.0;
          bad = λ some. f.unheld (held_alike (pin_values u found.0) (values_of bad) (λ p h. sym (own p h)) some);
          first = λ other allowed before.
              f.first (pin_values u other) (λ p h. allowed (rail_at u p) (wired p h)) (λ p h. absurd (omega arith)) (before_alike (pin_values u other) (values_of bad) (pin_values u found.0) own before);
        };
        own = own;
        past = f.past;
      }

  -- what the search answers is what spans do
  pub judged : Open rails spans → Apart u → Wired rails u → (vs : ℕ → ℕ) (answer : Option (List ℕ)) → Seeks u spans 0 vs answer → MatchOption answer (SafeFor rails spans u) (λ values. BadValues rails spans u values)
  judged wide apart wired vs None held = safe_all wired vs held
  judged wide apart wired vs (Some bad) f = bad_first wide apart wired vs bad f

-- What one more mode, and one more value at a pin, adds to the search. Assumes nothing.
use Rattle.std.proofs.Common.{◌≡◌, ℕ, ◌+◌, ◌<◌, ◌≤◌, Bool, cond, eqb, ◌≢◌, List, length, set, sym, refl, ◌∙◌, subst, ⊎_elim, arith, get_or-set_other, get_or-set_same, below_more}
use Rattle.std.proofs.lemmas.Bool.{cases_lt, cases_order, cases_eq, cond-true, cond-false, eq-eqb, ne_eqb}
use Rattle.platform.specs.declared.parts.Bounds.{Bounds}
use Rattle.platform.specs.Units.{Device, pin_bounds, Within}
use Rattle.spans.specs.Safety.{Alike}
use Rattle.spans.specs.Searching.{values_of, pin_span, Inside, Held, AllHeld, FirstUnheld, Alive, Keeps, Under}

-- ws with v at pin n
abbrev put : (ℕ → ℕ) → ℕ → ℕ → ℕ → ℕ
put ws n v = λ p. cond (eqb p n) v (ws p)

put_same : (ws : ℕ → ℕ) (n v : ℕ) → put ws n v n ≡ v
put_same ws n v = cond-true _ _ _ (eq-eqb n n refl)

put_other : (ws : ℕ → ℕ) (n v p : ℕ) → (p ≡ n → ⊥) → put ws n v p ≡ ws p
put_other ws n v p ne = cond-false _ _ _ (ne_eqb p n ne)

module _ (u : Device) (spans : List Bounds) where
  -- some mode holds what begins as vs and has less than v at pin n
  abbrev pub Lower : ℕ → (ℕ → ℕ) → ℕ → Type 0
  Lower n vs v = (ws : ℕ → ℕ) → Inside u spans (length u.pins) ws → Alike n ws vs → ws n < v → Held u ws

  module _ (n : ℕ) (vs ts : ℕ → ℕ) (same : Alike n ts vs) where
    -- what is bad with the value tried is bad without it, where all below it is held
    bad_up : (bad : ℕ → ℕ) → Lower n vs (ts n) → FirstUnheld u spans (n + 1) ts bad → FirstUnheld u spans n vs bad
    bad_up bad lower f = record {
      alike = λ p h. f.alike p (omega arith) ∙ same p h;
      inside = f.inside;
      unheld = f.unheld;
      first = λ ws inside alike before.
          let here = f.alike n (omega arith) in
          let q = before.pin in
          ⊎_elim
          (λ e. f.first ws inside (below_more (λ (p : ℕ). ws p ≡ ts p) n (λ p h. alike p h ∙ sym (same p h)) e) before)
          (⊎_elim
          (λ less. lower ws inside alike less)
          (λ more. absurd (⊎_elim
          (λ (e : q ≡ n). let less = subst (λ (p : ℕ). ws p < bad p) e before.less in omega arith)
          (⊎_elim
          (λ lt. omega (arith, before.less, alike q lt, same q lt, f.alike q (omega arith)))
          (λ (gt : n < q). omega (arith, before.alike n gt)))
          (cases_order q n))))
          (cases_order (ws n) (ts n));
      past = f.past;
    }

    -- what is held at the value tried is held as far up as the modes kept there reach
    reaches : (alive kept : List Bool) (r : ℕ) → Alive u n vs alive → Keeps (length u.modes) u n (ts n) alive kept → Under (length u.modes) u n kept r → n < length u.pins → Within (pin_span u spans n) (ts n) → AllHeld u spans (n + 1) ts → (ws : ℕ → ℕ) → Inside u spans (length u.pins) ws → Alike n ws vs → ts n ≤ ws n → ws n ≤ r → Held u ws
    reaches alive kept r marks keeps under lt here held ws inside alike low high =
        let lowered : ℕ → ℕ = put ws n (ts n) in
        let at_n = put_same ws n (ts n) in
        let off : (p : ℕ) → (p ≡ n → ⊥) → lowered p ≡ ws p = put_other ws n (ts n) in
        let begins : Alike (n + 1) lowered ts = below_more (λ (p : ℕ). lowered p ≡ ts p) n (λ p h. off p (λ e. omega arith) ∙ alike p h ∙ sym (same p h)) at_n in
        let still : Inside u spans (length u.pins) lowered = λ p h. ⊎_elim
        (λ e. subst (λ (q : ℕ). Within (pin_span u spans q) (lowered q)) (sym e) (subst (λ (x : ℕ). Within (pin_span u spans n) x) (sym at_n) here))
        (λ ne. subst (λ (x : ℕ). Within (pin_span u spans p) x) (sym (off p ne)) (inside p h))
        (cases_eq p n) in
        let some = held lowered still begins in
        let m = some.0 in
        let holds = some.1.1 in
        let down = subst (λ (x : ℕ). Within (pin_bounds u m n) x) at_n (holds n lt) in
        let on = (keeps m some.1.0).1
        ((marks m some.1.0).1 (λ p h. subst (λ (x : ℕ). Within (pin_bounds u m p) x) (off p (λ e. omega arith) ∙ alike p h) (holds p (omega arith))))
        down in
        let up = under m some.1.0 on in (
          m,
          (
            some.1.0,
            λ p h. ⊎_elim
                (λ e. subst (λ (q : ℕ). Within (pin_bounds u m q) (ws q)) (sym e) (omega (arith, down.0), omega arith))
                (λ ne. subst (λ (x : ℕ). Within (pin_bounds u m p) x) (off p ne) (holds p h))
                (cases_eq p n),
          ),
        )

  -- the turn of the loop that tries v at the pin
  module _ (values : List ℕ) (pin v : ℕ) (lt : pin < length values) where
    same : Alike pin (values_of (set values pin v)) (values_of values)
    same p h = let ne : p ≢ pin = omega arith in get_or-set_other values pin p v 0 ne

    here : values_of (set values pin v) pin ≡ v
    here = get_or-set_same values pin v 0 lt

    pub tried_bad : (bad : ℕ → ℕ) → Lower pin (values_of values) v → FirstUnheld u spans (pin + 1) (values_of (set values pin v)) bad → FirstUnheld u spans pin (values_of values) bad
    tried_bad bad lower =
        bad_up pin (values_of values) (values_of (set values pin v)) same bad (subst (Lower pin (values_of values)) (sym here) lower)

    pub tried_lower : (alive kept : List Bool) (r : ℕ) → Alive u pin (values_of values) alive → Keeps (length u.modes) u pin v alive kept → Under (length u.modes) u pin kept r → pin < length u.pins → Within (pin_span u spans pin) v → AllHeld u spans (pin + 1) (values_of (set values pin v)) → Lower pin (values_of values) v → Lower pin (values_of values) (r + 1)
    tried_lower alive kept r marks keeps under own within held lower ws inside alike h =
        ⊎_elim
        (λ less. lower ws inside alike less)
        (λ more.
        reaches pin (values_of values) (values_of (set values pin v)) same alive kept r marks
        (subst (λ (x : ℕ). Keeps (length u.modes) u pin x alive kept) (sym here) keeps)
        under own
        (subst (λ (x : ℕ). Within (pin_span u spans pin) x) (sym here) within)
        held ws inside alike (omega (arith, here)) (omega arith))
        (cases_lt (ws pin) v)

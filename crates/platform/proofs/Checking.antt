-- Loops that check units, one turn on. Assumes nothing.
use Rattle.std.proofs.Common.{◌≡◌, ℕ, ◌+◌, ◌<◌, ◌≤◌, List, [], ◌∷◌, ◌++◌, length, get_or, take, Option, Some, None, MatchOption, sym, ap, ◌∙◌, subst, arith}
use Rattle.std.specs.List.{AllWithin, HoldsAt}
use lib.ListN.{length-map}
use Rattle.std.proofs.lemmas.List.{take_more, get_or-map, map_push}
use Rattle.std.proofs.lemmas.List.Sums.{sum_by_push, count_by-le-length}
use Rattle.platform.specs.declared.unit.Unit.{Unit}
use Rattle.platform.specs.Units.{Device, no_device, unit_at}
use Rattle.platform.specs.Devices.{device, devices}
use Rattle.platform.specs.Rules.{drives, drivers_among, drivers, Each}

-- the unit that a slice has at k
pub unit_is : (us : List Unit) (k : ℕ) (u : Unit) → k < length us → u ≡ get_or us k u → unit_at (devices us) k ≡ device u
unit_is us k u lt is = get_or-map device us k u no_device lt ∙ ap device (sym is)

pub as_many : (us : List Unit) → length (devices us) ≡ length us
as_many us = length-map us device

pub drivers_more : (r : ℕ) (units : List Unit) (i : ℕ) (u : Unit) → i < length units → u ≡ get_or units i u → drivers r (devices (take i units)) + drivers_among r (device u).pins ≡ drivers r (devices (take (i + 1) units))
drivers_more r units i u lt is =
    let each : Device → ℕ = λ d. drivers_among r d.pins in
    sym (sum_by_push each (devices (take i units)) (device u))
    ∙ ap (drivers r) (sym (map_push device (take i units) u) ∙ ap devices (ap (λ x. take i units ++ x ∷ []) is ∙ sym (take_more units i u lt)))

pub few_drivers : (r : ℕ) (u : Unit) → drivers_among r (device u).pins ≤ 4
few_drivers r u = let few = u.pins_counted.1 in omega (arith, count_by-le-length (drives r) (device u).pins)

-- any element of a list that has one
some_of : {X : Type 0} (xs : List X) (k : ℕ) → k < length xs → X
some_of [] k lt = absurd (omega arith)
some_of (x ∷ xs) k lt = x

-- the place of the first unit that lacks what the others before it have, said of what the units are
pub first_without : (P : Device → Type 0) (Q : ℕ → Type 0) (us : List Unit) (r : Option ℕ)
    → ((i : ℕ) → i < length (devices us) → (P (unit_at (devices us) i) → ⊥) → ((k : ℕ) → k < i → P (unit_at (devices us) k)) → Q i)
    → MatchOption r (AllWithin (λ u. P (device u)) us 0 (length us)) (λ i. (i < length us) × HoldsAt (λ u. P (device u) → ⊥) us i × AllWithin (λ u. P (device u)) us 0 i)
    → MatchOption r (Each P (devices us)) Q
first_without P Q us None found h = λ k lt.
    let there : k < length us = omega (arith, as_many us) in
    let d = some_of us k there in
    subst P (sym (get_or-map device us k d no_device there)) (h k d (omega arith) there)
first_without P Q us (Some i) found h =
    let d = some_of us i h.0 in
    found i (omega (arith, as_many us, h.0)) (λ p. h.1 d (subst P (get_or-map device us i d no_device h.0) p)) (λ k lt.
    let there : k < length us = omega (arith, h.0) in
    subst P (sym (get_or-map device us k d no_device there)) (h.2 k d (omega arith) lt))

pub match_weaker : {X : Type 0} (o : Option X) (P P' : Type 0) (Q Q' : X → Type 0) → (P → P') → ((x : X) → Q x → Q' x) → MatchOption o P Q → MatchOption o P' Q'
match_weaker None P P' Q Q' p q h = p h
match_weaker (Some x) P P' Q Q' p q h = q x h

-- From the units of a program to those of its model. Assumes nothing.
use Rattle.std.specs.Prelude.{⊤}
use Rattle.std.proofs.Common.{◌≡◌, ℕ, ◌<◌, ◌≤◌, Bool, true, false, List, [], ◌∷◌, length, get_or, Option, Some, None, Ok, MatchOption, vec_items, sym, subst, ⊎_elim, arith}
use Rattle.std.specs.Fn.{FnReturnsAt}
use denote.Ref.{Bor}
use denote.Param.Members.{Shared}
use Rattle.std.proofs.lemmas.List.{get_or-map}
use Rattle.platform.specs.declared.parts.Bounds.{Bounds}
use Rattle.platform.specs.declared.unit.Unit.{Unit}
use Rattle.platform.specs.declared.platform.Platform.{Platform}
use Rattle.platform.specs.Units.{Device, no_device, unit_at}
use Rattle.platform.specs.Devices.{device}
use Rattle.platform.specs.Making.{model_of}
use Rattle.platform.proofs.Checking.{unit_is, as_many, match_weaker}
use Rattle.spans.specs.declared.judge.BadUnit.{BadUnit}
use Rattle.spans.specs.Safety.{SafeFor}
use Rattle.spans.specs.Searching.{Open, Seeks}
use Rattle.spans.specs.Judging.{SafeAt, BadAt, Judges, AllSafe, LowestBad, Touches, AllSafeOn, LowestBadOn}
use Rattle.spans.specs.Picking.{SafeBelow, NonePicked, LowestPicked}
use Rattle.spans.proofs.Mixes.{judged}

-- what the search answers for a unit of a platform
module _ (p : Platform) (spans : List Bounds) (k : ℕ) (u : Unit) (wide : Open p.rails spans) (lt : k < length (vec_items p.units)) (is : u ≡ get_or (vec_items p.units) k u) where
  here : unit_at (model_of p).units k ≡ device u
  here = unit_is (vec_items p.units) k u lt is

  there : k < length (model_of p).units
  there = omega (arith, lt, as_many (vec_items p.units))

  judged_there : (vs : ℕ → ℕ) (answer : Option (List ℕ)) → Seeks (device u) spans 0 vs answer → MatchOption answer (SafeAt (model_of p) spans k) (λ values. BadAt (model_of p) spans k values)
  judged_there vs answer seeks =
      judged p.rails spans (unit_at (model_of p).units k) wide (p.apart k there) (p.wired k there) vs answer (subst (λ (d : Device). Seeks d spans 0 vs answer) (sym here) seeks)

  pub safe_there : (vs : ℕ → ℕ) → Seeks (device u) spans 0 vs None → SafeFor p.rails spans (device u)
  safe_there vs seeks = subst (SafeFor p.rails spans) here (judged_there vs None seeks)

  pub bad_there : (vs : ℕ → ℕ) (values : List ℕ) → Seeks (device u) spans 0 vs (Some values) → BadAt (model_of p) spans k values
  bad_there vs values seeks = judged_there vs (Some values) seeks

  pub judged_in : (vs : ℕ → ℕ) (answer : Option (List ℕ)) → Seeks (device u) spans 0 vs answer → Judges (model_of p) spans k (Ok answer)
  judged_in vs None seeks = (there, judged_there vs None seeks)
  judged_in vs (Some values) seeks = (there, judged_there vs (Some values) seeks)

-- any element of a list that has one
some_of : {X : Type 0} (xs : List X) (k : ℕ) → k < length xs → X
some_of [] k lt = absurd (omega arith)
some_of (x ∷ xs) k lt = x

-- where the test leaves out no unit of a kind, each of them is safe
safe_below : (p : Platform) (spans : List Bounds) (picks : Unit → Bool → Type 0) (Of : Device → Type 0) → ((u : Unit) → picks u false → Of (device u) → ⊥) → (n : ℕ) → n ≤ length (vec_items p.units) → SafeBelow picks p spans n → (k : ℕ) → k < n → Of (unit_at (model_of p).units k) → SafeAt (model_of p) spans k
safe_below p spans picks Of off n few safe k lt of =
    let us = vec_items p.units in
    let there : k < length us = omega arith in
    let d = some_of us k there in
    let is = get_or-map device us k d no_device there in
    subst (SafeFor p.rails spans) (sym is) (⊎_elim (λ out. absurd (off (get_or us k d) out (subst Of is of))) (λ here. here) (safe k d (omega arith) lt))

module _ (p : Platform) (spans : List Bounds) {F : Type 0} {g : Shared F (Bor Unit × ⊤) Bool} {f : F} where
  -- a test that picks every unit
  pub picked_all : (answer : Option BadUnit) → MatchOption answer (NonePicked (FnReturnsAt g f) p spans) (λ b. LowestPicked (FnReturnsAt g f) p spans b.unit b.values) → ((u : Unit) → FnReturnsAt g f u false → ⊥) → MatchOption answer (AllSafe (model_of p) spans) (λ b. LowestBad (model_of p) spans b.unit b.values)
  picked_all answer h all =
      let below = safe_below p spans (FnReturnsAt g f) (λ _. ⊤) (λ u out _. all u out) in
      match_weaker answer _ _ _ _
      (λ safe k lt. below _ (omega arith) safe k (omega (arith, as_many (vec_items p.units))) tt)
      (λ b l. record {
        there = omega (arith, l.there, as_many (vec_items p.units));
        bad = l.bad;
        lowest = λ j lt. below b.unit (omega (arith, l.there)) l.lowest j lt tt;
      })
      h

  -- a test that picks the units on rail r
  pub picked_on : (r : ℕ) (answer : Option BadUnit) → MatchOption answer (NonePicked (FnReturnsAt g f) p spans) (λ b. LowestPicked (FnReturnsAt g f) p spans b.unit b.values) → ((u : Unit) → FnReturnsAt g f u false → Touches r (device u) → ⊥) → ((u : Unit) → FnReturnsAt g f u true → Touches r (device u)) → MatchOption answer (AllSafeOn (model_of p) r spans) (λ b. LowestBadOn (model_of p) r spans b.unit b.values)
  picked_on r answer h off on =
      let us = vec_items p.units in
      let below = safe_below p spans (FnReturnsAt g f) (Touches r) off in
      match_weaker answer _ _ _ _
      (λ safe k lt touches. below _ (omega arith) safe k (omega (arith, as_many us)) touches)
      (λ b l.
      let d = some_of us b.unit l.there in record {
        there = omega (arith, l.there, as_many us);
        touches = subst (Touches r) (sym (get_or-map device us b.unit d no_device l.there)) (on (get_or us b.unit d) (l.picked d));
        bad = l.bad;
        lowest = λ j lt touches. below b.unit (omega (arith, l.there)) l.lowest j lt touches;
      })
      h

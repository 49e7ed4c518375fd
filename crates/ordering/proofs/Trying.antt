-- What a trial of one rail tells. Assumes nothing.
use Rattle.std.proofs.Common.{◌≡◌, ℕ, ◌+◌, ◌^◌, ◌≤◌, Bool, true, false, cond, eqb, List, length, set, Some, None, Option, sym, refl, ap, ◌∙◌, subst, ⊎_elim, arith, get_or-set_other, get_or-set_same, is_some, not, Decides, MatchOption, rules}
use Rattle.std.proofs.lemmas.Bool.{eq-eqb, ne_eqb, cases_eq, cond-true, cond-false, false≢true}
use Rattle.platform.specs.declared.parts.Bounds.{Bounds}
use Rattle.platform.specs.Units.{bounds_at, no_bounds, value_of, Within, Resting}
use Rattle.platform.specs.Rules.{Sound}
use Rattle.platform.specs.Describing.{Model}
use Rattle.platform.specs.declared.platform.Platform.{Platform}
use Rattle.platform.specs.Making.{model_of}
use Rattle.spans.specs.declared.judge.BadUnit.{BadUnit}
use Rattle.spans.specs.Judging.{AllSafe, AllSafeOn, LowestBadOn}
use Rattle.spans.proofs.Moves.{one_rail}
use Rattle.histories.specs.declared.rail.Rail.TheVariants.{Still, Moving}
use Rattle.histories.specs.Rails.{end_of}
use Rattle.histories.specs.Spans.{mix_of, Safe, span_of, SpansOf}
use Rattle.histories.proofs.Spans.{mix_value, modes_same, safety_exact}
use Rattle.histories.proofs.Orders.{safe_as, still_safe}
use Rattle.ordering.specs.Sets.{bit, Mixes, place, Changes}
use Rattle.ordering.specs.Steps.{moved_mix, leaving, Next, Movable, nothing, more}
use Rattle.ordering.specs.Filling.{standing}
use Rattle.ordering.specs.Answers.{mixes_of}
use Rattle.ordering.proofs.Bits.{bit_none}
use Rattle.ordering.proofs.Ranks.{mix_out, mix_more}

-- a platform keeps every rule
pub sound_of : (p : Platform) → Sound (model_of p).rails (model_of p).units
sound_of p = search rules

-- where the rails stand at a mix that rests they are safe
pub rest_safe : (m : Model) → Sound m.rails m.units → (mix : List ℕ) → Resting m.units mix → Safe m.rails m.units (λ i. Still (value_of mix i))
rest_safe m sound mix rests other at =
    modes_same m.rails m.units mix other (λ r lt. at r lt) sound.wired (λ k lt. let h = rests k lt in (h.0, (h.1.0.0, h.1.1)))

module _ (m : Model) (sound : Sound m.rails m.units) (first last : List ℕ) where
  -- where the rails of a set that can be built up have moved, the rails are safe
  movable_safe : {s : ℕ} → Movable m.units (mixes_of m first last) s → Safe m.rails m.units (standing (mixes_of m first last) s)
  movable_safe (nothing calm) =
      safe_as m.rails m.units (λ i. Still (value_of first i)) (standing (mixes_of m first last) 0)
      (λ i. ap (λ (v : ℕ). Still v) (sym (mix_out (mixes_of m first last) 0 i (bit_none (place (mixes_of m first last) i)))))
      calm
  movable_safe (more {s} {r} w next) =
      let x : Mixes = mixes_of m first last in
      still_safe m.rails m.units (leaving (moved_mix x s) r (x.last r)) (moved_mix x (s + 2 ^ place x r))
      (λ i l. mix_more x s r i next.changes next.out
      ∙ elim (eqb i r) as (λ b. cond b (x.last r) (moved_mix x s i) ≡ end_of (cond b (Moving (moved_mix x s i) (x.last r)) (Still (moved_mix x s i)))) [ true ↦ refl | false ↦ refl ])
      next.safe

  module _ (spans : List Bounds) (s r : ℕ) (long : m.rails ≤ length spans) (shown : SpansOf m.rails (standing (mixes_of m first last) s) spans) (w : Movable m.units (mixes_of m first last) s) (changes : Changes (mixes_of m first last) r) (out : bit s (place (mixes_of m first last) r) ≡ 0) where
    abbrev pub x : Mixes
    x = mixes_of m first last

    abbrev pub tried : List Bounds
    tried = set spans r (span_of (Moving (value_of first r) (value_of last r)))

    -- with the rail's span put in, the spans are those of the rails with this one on its way
    tried_shown : SpansOf m.rails (leaving (moved_mix x s) r (x.last r)) tried
    tried_shown i l =
        ⊎_elim
        (λ (q : i ≡ r). subst (λ (j : ℕ). bounds_at (set spans r (span_of (Moving (value_of first r) (value_of last r)))) j ≡ span_of (leaving (moved_mix (mixes_of m first last) s) r (value_of last r) j)) (sym q)
        (get_or-set_same spans r (span_of (Moving (value_of first r) (value_of last r))) no_bounds (omega (arith, long, changes.0))
        ∙ ap (λ (v : ℕ). span_of (Moving v (value_of last r))) (sym (mix_out (mixes_of m first last) s r out))
        ∙ ap span_of (sym (cond-true _ _ _ (eq-eqb r r refl)))))
        (λ ne. get_or-set_other spans r i (span_of (Moving (value_of first r) (value_of last r))) no_bounds ne ∙ shown i l ∙ ap span_of (sym (cond-false _ _ _ (ne_eqb i r ne))))
        (cases_eq i r)

    -- it is enough to look at the units on the rail
    all_from_on : AllSafeOn m r tried → AllSafe m tried
    all_from_on on =
        let mix : ℕ → ℕ = moved_mix (mixes_of m first last) s in
        one_rail m sound spans (set spans r (span_of (Moving (value_of first r) (value_of last r)))) r
        (λ q ne. get_or-set_other spans r q (span_of (Moving (value_of first r) (value_of last r))) no_bounds ne)
        (mix_of m.rails mix)
        (λ q l. subst (λ (b : Bounds). Within b (value_of (mix_of m.rails mix) q)) (sym (shown q l)) (rw (mix_value m.rails mix q l) (omega arith, omega arith)))
        ((safety_exact m.rails m.units (standing (mixes_of m first last) s) spans shown).1 (movable_safe w))
        on

    -- what the look at them tells
    pub next_says : (answer : Option BadUnit) (b : Bool) → is_some answer ≡ not b → MatchOption answer (AllSafeOn m r tried) (λ bad. LowestBadOn m r tried bad.unit bad.values) → Decides b (Next m.units x s r)
    next_says None true e on = (
      λ _. record { changes = changes; out = out; safe = (safety_exact m.rails m.units (leaving (moved_mix (mixes_of m first last) s) r (value_of last r)) tried tried_shown).0 (all_from_on on) },
      λ _. refl,
    )
    next_says None false e on = absurd (false≢true e)
    next_says (Some bad) true e lowest = absurd (false≢true (sym e))
    next_says (Some bad) false e lowest = (
      λ e. absurd (false≢true e),
      λ next. absurd (lowest.bad.first.bad ((safety_exact m.rails m.units (leaving (moved_mix (mixes_of m first last) s) r (value_of last r)) tried tried_shown).1 next.safe bad.unit lowest.there lowest.bad.mix lowest.bad.first.allowed)),
    )

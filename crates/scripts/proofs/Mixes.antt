-- Mixes and spans that are the same on the platform's rails, and what holds of both. Assumes nothing.
use Rattle.std.proofs.Common.{◌≡◌, ℕ, ◌<◌, List, length, Some, None, Option, sym, ◌∙◌, subst, arith, MatchOption}
use Rattle.std.proofs.lemmas.List.FromFn.{get_or-map-range_with_len}
use Rattle.platform.specs.declared.parts.Bounds.{Bounds}
use Rattle.platform.specs.Units.{Device, unit_at, rail_at, pin_bounds, bounds_at, no_bounds, value_of, Within, AtRest, Resting}
use Rattle.platform.specs.Rules.{Each, Wired}
use Rattle.platform.specs.Describing.{Model}
use Rattle.platform.specs.Resting.{LowestUnrested}
use Rattle.spans.specs.Safety.{Allowed}
use Rattle.spans.specs.Judging.{LowestBad}
use Rattle.histories.specs.declared.rail.Rail.{Rail}
use Rattle.histories.specs.declared.step.Step.{Step}
use Rattle.histories.specs.Rails.{last_mix}
use Rattle.histories.specs.Spans.{mix_of, span_of, SpansOf}
use Rattle.histories.proofs.Spans.{mix_value}
use Rattle.scripts.specs.Checking.{spans_of, LastValues, FirstRests, FirstRestless, LastRests, LastRestless}

-- mixes that agree on the platform's rails
module _ (n : ℕ) (units : List Device) (a b : List ℕ) (wired : Each (Wired n) units) (same : (r : ℕ) → r < n → value_of a r ≡ value_of b r) where
  rest_to : (k : ℕ) → k < length units → AtRest (unit_at units k) a → AtRest (unit_at units k) b
  rest_to k lt h = (
    h.0,
    (h.1.0, λ p l. subst (λ (x : ℕ). Within (pin_bounds (unit_at units k) h.0 p) x) (same (rail_at (unit_at units k) p) (wired k lt p l)) (h.1.1 p l)),
  )

  rest_back : (k : ℕ) → k < length units → AtRest (unit_at units k) b → AtRest (unit_at units k) a
  rest_back k lt h = (
    h.0,
    (h.1.0, λ p l. subst (λ (x : ℕ). Within (pin_bounds (unit_at units k) h.0 p) x) (sym (same (rail_at (unit_at units k) p) (wired k lt p l))) (h.1.1 p l)),
  )

  resting_same : Resting units a → Resting units b
  resting_same h k lt = rest_to k lt (h k lt)

  unrested_same : (u : ℕ) → LowestUnrested units a u → LowestUnrested units b u
  unrested_same u h = record {
    there = h.there;
    unrested = λ rest. h.unrested (rest_back u h.there rest);
    lowest = λ k lt. rest_to k (omega (arith, h.there)) (h.lowest k lt);
  }

  -- what is said of one of them is said of the other
  rested : (o : Option ℕ) → MatchOption o (Resting units a) (λ u. LowestUnrested units a u) → MatchOption o (Resting units b) (λ u. LowestUnrested units b u)
  rested None h = resting_same h
  rested (Some u) h = unrested_same u h

-- a mix rests as its values on the platform's rails do
module _ (m : Model) (wired : Each (Wired m.rails) m.units) (values : List ℕ) (o : Option ℕ) (said : MatchOption o (Resting m.units values) (λ u. LowestUnrested m.units values u)) where
  pub first_said : MatchOption o (FirstRests m (value_of values)) (λ u. FirstRestless m (value_of values) u)
  first_said =
      rested m.rails m.units values (mix_of m.rails (value_of values)) wired (λ r lt. sym (mix_value m.rails (value_of values) r lt)) o said

  pub last_said : (first : ℕ → ℕ) (script : List Step) → LastValues m.rails first script values → MatchOption o (LastRests m first script) (λ u. LastRestless m first script u)
  last_said first script last =
      rested m.rails m.units values (mix_of m.rails (last_mix first script)) wired (λ r lt. last.own r lt ∙ sym (mix_value m.rails (last_mix first script) r lt)) o said

-- spans that agree on the platform's rails
module _ (m : Model) (a b : List Bounds) (same : (r : ℕ) → r < m.rails → bounds_at a r ≡ bounds_at b r) where
  allowed_to : (mix : List ℕ) → Allowed m.rails a mix → Allowed m.rails b mix
  allowed_to mix h r lt = subst (λ (x : Bounds). Within x (value_of mix r)) (same r lt) (h r lt)

  allowed_back : (mix : List ℕ) → Allowed m.rails b mix → Allowed m.rails a mix
  allowed_back mix h r lt = subst (λ (x : Bounds). Within x (value_of mix r)) (sym (same r lt)) (h r lt)

  pub bad_same : (u : ℕ) (values : List ℕ) → LowestBad m a u values → LowestBad m b u values
  bad_same u values h = record {
    there = h.there;
    bad = record {
      mix = h.bad.mix;
      first = record {
        allowed = allowed_to h.bad.mix h.bad.first.allowed;
        bad = h.bad.first.bad;
        first = λ other allowed before. h.bad.first.first other (allowed_back other allowed) before;
      };
      own = h.bad.own;
      past = h.bad.past;
    };
    lowest = λ j lt mix allowed. h.lowest j lt mix (allowed_back mix allowed);
  }

-- the rails' spans, one by one
pub spans_same : (n : ℕ) (rails : ℕ → Rail) (spans : List Bounds) → SpansOf n rails spans → (r : ℕ) → r < n → bounds_at spans r ≡ bounds_at (spans_of n rails) r
spans_same n rails spans are r lt = are r lt ∙ sym (get_or-map-range_with_len (λ i. span_of (rails i)) 0 n r r no_bounds lt (omega arith))

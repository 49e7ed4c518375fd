-- Values and mixes on the platform's rails, and spans as bounds. Assumes nothing.
use Rattle.std.proofs.Common.{◌≡◌, ℕ, ◌<◌, List, sym, subst, arith}
use Rattle.std.proofs.lemmas.List.FromFn.{get_or-map-range_with_len}
use Rattle.platform.specs.declared.parts.Bounds.{Bounds}
use Rattle.platform.specs.Units.{Device, unit_at, rail_at, pin_bounds, value_of, Within}
use Rattle.platform.specs.Rules.{Each, Wired}
use Rattle.histories.specs.declared.rail.Rail.{Rail}
use Rattle.histories.specs.declared.rail.Rail.TheVariants.{Still, Moving}
use Rattle.histories.specs.Spans.{InSpan, InSpans, mix_of, InModes, span_of, SpanExact, SafetyExact}

-- a mix has the values that it is made of
pub mix_value : (n : ℕ) (values : ℕ → ℕ) (r : ℕ) → r < n → value_of (mix_of n values) r ≡ values r
mix_value n values r h = get_or-map-range_with_len values 0 n r r 0 h (omega arith)

-- values in the spans make a mix that the spans allow
pub mix_in_spans : (n : ℕ) (rails : ℕ → Rail) (values : ℕ → ℕ) → InSpans n rails values → InSpans n rails (value_of (mix_of n values))
mix_in_spans n rails values h r l = subst (λ (x : ℕ). InSpan (rails r) x) (sym (mix_value n values r l)) (h r l)

-- mixes that agree on the platform's rails put every unit in the same modes
pub modes_same : (n : ℕ) (units : List Device) (a b : List ℕ) → ((r : ℕ) → r < n → value_of b r ≡ value_of a r) → Each (Wired n) units → InModes units a → InModes units b
modes_same n units a b same wired h k l =
    let was = h k l in (
      was.0,
      (
        was.1.0,
        λ p lt.
            subst (λ (x : ℕ). Within (pin_bounds (unit_at units k) was.0 p) x) (sym (same (rail_at (unit_at units k) p) (wired k l p lt))) (was.1.1 p lt),
      ),
    )

-- a value within the span is one of the rail's
in_span : (rail : Rail) (v : ℕ) → Within (span_of rail) v → InSpan rail v
in_span (Still x) v h = omega arith
in_span (Moving o t) v h = h

-- a value of the rail is within the span
within_span : (rail : Rail) (v : ℕ) → InSpan rail v → Within (span_of rail) v
within_span (Still x) v e = (omega arith, omega arith)
within_span (Moving o t) v h = h

pub span_exact : SpanExact
span_exact rail v = (in_span rail v, within_span rail v)

pub safety_exact : SafetyExact
safety_exact n units rails spans are = (
  λ safe mix allowed k l.
      safe k l mix (λ r lt. subst (λ (b : Bounds). Within b (value_of mix r)) (sym (are r lt)) (within_span (rails r) (value_of mix r) (allowed r lt))),
  λ safe k l mix allowed.
      safe mix (λ r lt. in_span (rails r) (value_of mix r) (subst (λ (b : Bounds). Within b (value_of mix r)) (are r lt) (allowed r lt))) k l,
)

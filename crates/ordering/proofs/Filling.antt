-- What each trial adds to the table. Assumes nothing.
use Rattle.std.proofs.Common.{◌≡◌, ℕ, ◌+◌, ◌^◌, ◌<◌, ◌≤◌, ◌≢◌, List, length, length-set, get_or, set, sym, ◌∙◌, inl, inr, ⊎_elim, arith, get_or-set_other, get_or-set_same, pow_pos}
use Rattle.std.proofs.lemmas.Bool.{cases_eq, cases_lt}
use Rattle.platform.specs.Units.{Device}
use Rattle.histories.specs.declared.rail.Rail.TheVariants.{Still}
use Rattle.histories.specs.Spans.{Safe}
use Rattle.ordering.specs.Sets.{Mixes, count, place, Finished}
use Rattle.ordering.specs.Steps.{Next, Movable, nothing, more}
use Rattle.ordering.specs.Filling.{Tried, Filled, Later, Exact}
use Rattle.ordering.proofs.Bits.{bit_below}
use Rattle.ordering.proofs.Ranks.{place_below}
use Rattle.ordering.proofs.Ways.{movable_below, can_from_movable, movable_from_can}

module _ (units : List Device) (x : Mixes) where
  next_below : (s r : ℕ) → s < 2 ^ count x → Next units x s r → s + 2 ^ place x r < 2 ^ count x
  next_below s r lt next = bit_below (count x) s (place x r) (place_below x r next.changes) lt next.out

  -- a rail was tried from set s
  module _ (t : List ℕ) (s r : ℕ) (f : Filled units x t s r) (lt : s < 2 ^ count x) (one : get_or t s 0 ≡ 1) where
    fill_same : (Next units x s r → get_or t (s + 2 ^ place x r) 0 ≡ 1) → Filled units x t s (r + 1)
    fill_same h = record {
      long = f.long;
      bytes = f.bytes;
      start = f.start;
      sound = f.sound;
      pushed = λ i q at on next. ⊎_elim
          (λ less. f.pushed i q (inl less) on next)
          (λ here. ⊎_elim
          (λ (e : q ≡ r). rw (here.0, e) (h (rw (here.0, e) at next)))
          (λ ne. f.pushed i q (inr (here.0, omega (arith, here.1))) on next)
          (cases_eq q r))
          at;
    }

    fill_put : Next units x s r → Filled units x (set t (s + 2 ^ place x r) 1) s (r + 1)
    fill_put next =
        let long : 2 ^ count x ≤ length t = f.long in
        let w : ℕ = s + 2 ^ place x r in
        let below : w < 2 ^ count x = next_below s r lt next in
        let up : s < w = omega (arith, pow_pos (place x r)) in
        let same : get_or (set t w 1) w 0 ≡ 1 = get_or-set_same t w 1 0 (omega arith) in
        let other : (i : ℕ) → i ≢ w → get_or (set t w 1) i 0 ≡ get_or t i 0 = λ i ne. get_or-set_other t w i 1 0 ne in
        let kept : (i : ℕ) → get_or t i 0 ≡ 1 → get_or (set t w 1) i 0 ≡ 1 = λ i h. ⊎_elim (λ (e : i ≡ w). rw e same) (λ ne. other i ne ∙ h) (cases_eq i w) in
        record {
          long = omega (arith, length-set t w 1);
          bytes = λ i l. ⊎_elim (λ (e : i ≡ w). inr (rw e same)) (λ ne. rw (other i ne) (f.bytes i l)) (cases_eq i w);
          start = kept 0 f.start;
          sound = λ i l h. ⊎_elim (λ (e : i ≡ w). rw e (more (f.sound s lt one) next)) (λ ne. f.sound i l (sym (other i ne) ∙ h)) (cases_eq i w);
          pushed = λ i q at on next'.
              let low : i ≤ s = ⊎_elim (λ less. omega arith) (λ here. omega (arith, here.0)) at in
              let was : get_or t i 0 ≡ 1 = sym (other i (λ e. omega arith)) ∙ on in
              ⊎_elim
              (λ less. kept (i + 2 ^ place x q) (f.pushed i q (inl less) was next'))
              (λ here. ⊎_elim
              (λ (e : q ≡ r). rw (here.0, e) same)
              (λ ne. kept (i + 2 ^ place x q) (f.pushed i q (inr (here.0, omega (arith, here.1))) was next'))
              (cases_eq q r))
              at;
        }

    pub fill_step : (t' : List ℕ) → Tried units x s r t t' → Filled units x t' s (r + 1)
    fill_step t' (inl h) = rw h.1 (fill_put h.0)
    fill_step t' (inr h) = rw h.0 (fill_same h.1)

  pub fill_next : (t : List ℕ) (s : ℕ) → Filled units x t s x.rails → Filled units x t (s + 1) 0
  fill_next t s f = record {
    long = f.long;
    bytes = f.bytes;
    start = f.start;
    sound = f.sound;
    pushed = λ i q at on next. ⊎_elim
        (λ less. ⊎_elim (λ lt. f.pushed i q (inl lt) on next) (λ ge. f.pushed i q (inr (omega arith, next.changes.0)) on next) (cases_lt i s))
        (λ here. absurd (omega (arith, here.1)))
        at;
  }

  pub fill_skip : (t : List ℕ) (s : ℕ) → (get_or t s 0 ≡ 1 → ⊥) → Filled units x t s 0 → Filled units x t (s + 1) 0
  fill_skip t s none f = record {
    long = f.long;
    bytes = f.bytes;
    start = f.start;
    sound = f.sound;
    pushed = λ i q at on next. ⊎_elim
        (λ less. ⊎_elim (λ lt. f.pushed i q (inl lt) on next) (λ ge. let e : i ≡ s = omega arith in absurd (none (rw e at on))) (cases_lt i s))
        (λ here. absurd (omega (arith, here.1)))
        at;
  }

  pub fill_begin : Safe x.rails units (λ i. Still (x.first i)) → (t : List ℕ) → 2 ^ count x ≤ length t → ((i : ℕ) → i < 2 ^ count x → get_or t i 0 ≡ 0) → Filled units x (set t 0 1) 0 0
  fill_begin calm t long none =
      let pos = pow_pos (count x) in
      let same : get_or (set t 0 1) 0 0 ≡ 1 = get_or-set_same t 0 1 0 (omega arith) in
      let other : (i : ℕ) → i ≢ 0 → get_or (set t 0 1) i 0 ≡ get_or t i 0 = λ i ne. get_or-set_other t 0 i 1 0 ne in
      record {
        long = omega (arith, length-set t 0 1);
        bytes = λ i l. ⊎_elim (λ (q : i ≡ 0). inr (rw q same)) (λ ne. inl (other i ne ∙ none i l)) (cases_eq i 0);
        start = same;
        sound = λ i l h. ⊎_elim (λ (q : i ≡ 0). rw q (nothing calm)) (λ ne. absurd (omega (arith, sym (other i ne) ∙ h, none i l))) (cases_eq i 0);
        pushed = λ i q at on next. ⊎_elim (λ less. absurd (omega arith)) (λ here. absurd (omega (arith, here.1))) at;
      }

  whole : (t : List ℕ) → Filled units x t (2 ^ count x) 0 → {i : ℕ} → Movable units x i → get_or t i 0 ≡ 1
  whole t f (nothing calm) = f.start
  whole t f (more {s} {r} w next) = f.pushed s r (inl (movable_below units x w)) (whole t f w) next

  pub exact_from_filled : (t : List ℕ) → Filled units x t (2 ^ count x) 0 → Exact units x t
  exact_from_filled t f = record { long = f.long; sound = f.sound; whole = λ i w. whole t f w }

  pub finished_from_filled : Safe x.rails units (λ i. Still (x.first i)) → (old t : List ℕ) → Filled units x t (2 ^ count x) 0 → Later x old t → Finished units x old t
  finished_from_filled calm old t f later = record {
    told = λ s l. ⊎_elim
        (λ none. inr (none, λ can. omega (arith, whole t f (movable_from_can units x calm s l can))))
        (λ one. inl (one, can_from_movable units x (f.sound s l one)))
        (f.bytes s l);
    later = later;
  }

-- a trial only adds to the table
pub tried_one : (units : List Device) (x : Mixes) (s r : ℕ) (t t' : List ℕ) → Tried units x s r t t' → get_or t s 0 ≡ 1 → get_or t' s 0 ≡ 1
tried_one units x s r t t' (inl h) one = rw h.1 (get_or-set_other t (s + 2 ^ place x r) s 1 0 (λ e. omega (arith, pow_pos (place x r))) ∙ one)
tried_one units x s r t t' (inr h) one = rw h.0 one

-- and no byte past those of the sets
pub tried_later : (units : List Device) (x : Mixes) (s r : ℕ) (t t' : List ℕ) → s < 2 ^ count x → Tried units x s r t t' → Later x t t'
tried_later units x s r t t' lt (inl h) = λ i l. rw h.1 (get_or-set_other t (s + 2 ^ place x r) i 1 0 (λ e. omega (arith, next_below units x s r lt h.0)))
tried_later units x s r t t' lt (inr h) = λ i l. rw h.0

-- Reading an order back from the table. Assumes nothing.
use Rattle.std.proofs.Common.{◌≡◌, ℕ, suc, ◌+◌, ◌-◌, ◌^◌, ◌<◌, ◌≤◌, cond, eqb, ◌≢◌, ◌⊎◌, List, [], ◌∷◌, length, take, drop, set, sym, refl, ap, ◌∙◌, subst, inl, inr, ⊎_elim, add-one, arith, pow_pos}
use Rattle.std.specs.Int.Count.{ones}
use Rattle.std.proofs.lemmas.List.{drop-set}
use Rattle.std.proofs.lemmas.Bool.{cases_eq}
use Rattle.platform.specs.Units.{Device}
use Rattle.histories.specs.declared.rail.Rail.TheVariants.{Still}
use Rattle.histories.specs.Rails.{after}
use Rattle.histories.proofs.Shifts.{from, from_after}
use Rattle.histories.proofs.Orders.{safe_as}
use Rattle.openings.specs.Orders.{Among, Distinct, singly}
use Rattle.ordering.specs.Sets.{bit, Mixes, count, place, Changes, SafeOrder}
use Rattle.ordering.specs.Steps.{moved_mix, Next, Movable, nothing, more}
use Rattle.ordering.specs.Filling.{Exact, Last}
use Rattle.ordering.proofs.Bits.{bit_same, bit_full, bit_none, ones_more}
use Rattle.ordering.proofs.Ranks.{place_below, mix_more, mix_out, other_bit}
use Rattle.ordering.proofs.Orders.{Moves, leaving_as, moves_script}

-- an order of the rails that are not in set s, safe from there on
pub record Rest (units : List Device) (x : Mixes) (s : ℕ) (order : List ℕ) : Type 0 where
  pub once : Distinct order
  pub only : (r : ℕ) → Among r order → Changes x r × (bit s (place x r) ≡ 0)
  pub every : (r : ℕ) → Changes x r → bit s (place x r) ≡ 0 → Among r order
  pub moves : Moves x.rails units x.last (moved_mix x s) order

-- the order as far as it is read back: the last m of n places
abbrev pub tail : List ℕ → ℕ → ℕ → List ℕ
tail rails m place = take m (drop place rails)

module _ (units : List Device) (x : Mixes) where
  -- a set that can be moved is empty or has a last rail
  pub last_of : (t : List ℕ) → Exact units x t → {s : ℕ} → Movable units x s → (s ≡ 0) ⊎ ((r : ℕ) × (p : ℕ) × Last units x t s r p)
  last_of t e (nothing calm) = inl refl
  last_of t e (more {s} {r} w next) = inr (r, s, record { is = refl; one = e.whole s w; next = next })

  moves_as : (order : List ℕ) (m m' : ℕ → ℕ) → ((i : ℕ) → i < x.rails → m i ≡ m' i) → Moves x.rails units x.last m order → Moves x.rails units x.last m' order
  moves_as [] m m' e w = tt
  moves_as (r ∷ rs) m m' e w = (
    leaving_as x.rails units x.last m m' r (x.last r) e w.0,
    moves_as rs (λ i. cond (eqb i r) (x.last r) (m i)) (λ i. cond (eqb i r) (x.last r) (m' i)) (λ i l. ap (λ (v : ℕ). cond (eqb i r) (x.last r) v) (e i l)) w.1,
  )

  pub rest_full : Rest units x (2 ^ count x - 1) []
  rest_full = record {
    once = tt;
    only = λ r a. absurd a;
    every = λ r c out. absurd (omega (arith, out, bit_full (count x) (place x r) (place_below x r c)));
    moves = tt;
  }

  -- one rail more at the front
  pub rest_more : (p r : ℕ) (order : List ℕ) → Next units x p r → Rest units x (p + 2 ^ place x r) order → Rest units x p (r ∷ order)
  rest_more p r order next rest =
      let s : ℕ = p + 2 ^ place x r in
      let here : bit s (place x r) ≡ 1 = bit_same p (place x r) next.out in
      let keep : (i : ℕ) → Changes x i → i ≢ r → bit s (place x i) ≡ bit p (place x i) = λ i ci ne. other_bit x p r i next.changes next.out ci.1 ne in
      let out : Among r order → ⊥ = λ a. omega (arith, (rest.only r a).1, here) in
      record {
        once = (out, rest.once);
        only = λ i a. ⊎_elim
            (λ (e : i ≡ r). rw e (next.changes, next.out))
            (λ b. let was = rest.only i b in (was.0, sym (keep i was.0 (λ (e : i ≡ r). out (subst (λ (q : ℕ). Among q order) e b))) ∙ was.1))
            a;
        every = λ i ci o. ⊎_elim (λ e. inl e) (λ ne. inr (rest.every i ci (keep i ci ne ∙ o))) (cases_eq i r);
        moves = (next.safe, moves_as order (moved_mix x s) (λ i. cond (eqb i r) (x.last r) (moved_mix x p i)) (λ i l. mix_more x p r i next.changes next.out) rest.moves);
      }

  pub order_from_rest : (order : List ℕ) → Rest units x 0 order → SafeOrder units x order
  order_from_rest order rest =
      let n = x.rails in
      let moves = moves_as order (moved_mix x 0) x.first (λ i l. mix_out x 0 i (bit_none (place x i))) rest.moves in
      record {
        changed = record { once = rest.once; only = λ r a. (rest.only r a).0; every = λ r l ne. rest.every r (l, ne) (bit_none (place x r)) };
        safe = λ k h. safe_as n units (from (λ i. Still (x.first i)) (singly x.last order) (suc k)) (after x.first (singly x.last order) (suc k))
            (from_after x.first (singly x.last order) (suc k))
            (moves_script n units x.last x.first order moves k h);
      }

  -- how many rails are left, where one is taken out
  pub ones_last : (t : List ℕ) (s r p : ℕ) → Last units x t s r p → ones s ≡ ones p + 1
  ones_last t s r p l = ap ones (sym l.is) ∙ ones_more p (place x r) l.next.out

  pub tail_more : (rails : List ℕ) (m at r s p : ℕ) (t : List ℕ) → at < length rails → Last units x t s r p → Rest units x s (tail rails m (at + 1)) → Rest units x p (tail (set rails at r) (m + 1) at)
  tail_more rails m at r s p t lt l rest =
      let e : tail (set rails at r) (m + 1) at ≡ r ∷ tail rails m (at + 1) = ap (take (m + 1)) (drop-set rails at r lt) ∙ rw add-one in
      rw e (rest_more p r (tail rails m (at + 1)) l.next (rw l.is rest))

  -- the loop that reads back: n rails in all, of which `left` are left
  pub read_begin : (rails : List ℕ) (n : ℕ) → n ≡ count x → Rest units x (2 ^ n - 1) (tail rails (n - n) n)
  read_begin rails n e =
      let z : n - n ≡ 0 = omega arith in
      rw z (subst (λ (k : ℕ). Rest units x (2 ^ k - 1) []) (sym e) rest_full)

  module _ (rails t : List ℕ) (n left s r p : ℕ) (l : Last units x t s r p) (is : ones s ≡ left) where
    pub read_some : 1 ≤ left
    read_some = omega (arith, ones_last t s r p l)

    pub read_ones : ones p ≡ left - 1
    read_ones = omega (arith, ones_last t s r p l)

    pub read_below : p < s
    read_below = omega (arith, l.is, pow_pos (place x r))

    pub read_step : left ≤ n → left ≤ length rails → Rest units x s (tail rails (n - left) left) → Rest units x p (tail (set rails (left - 1) r) (n - (left - 1)) (left - 1))
    read_step le long rest =
        let some = read_some in
        let a : left - 1 + 1 ≡ left = omega arith in
        let b : n - (left - 1) ≡ n - left + 1 = omega arith in
        rw b (tail_more rails (n - left) (left - 1) r s p t (omega arith) l (rw a rest))

  pub read_end : (rails : List ℕ) (n left s : ℕ) → s ≡ 0 → ones s ≡ left → Rest units x s (tail rails (n - left) left) → SafeOrder units x (take n rails)
  unfolding ones
  read_end rails n left s z is rest =
      let none : left ≡ 0 = sym is ∙ ap ones z in
      let whole : n - 0 ≡ n = omega arith in
      order_from_rest (take n rails) (rw whole at (rw (z, none) at rest))

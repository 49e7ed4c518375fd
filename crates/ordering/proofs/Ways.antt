-- A set can be moved in some safe order exactly if it can be built up by safe moves. Assumes nothing.
use Rattle.std.proofs.Common.{◌≡◌, ℕ, suc, ◌+◌, ◌-◌, ◌^◌, ◌<◌, cond, eqb, ◌≢◌, List, [], ◌∷◌, ◌++◌, sym, refl, ap, ◌∙◌, subst, inl, inr, ⊎_elim, arith, pow_pos}
use Rattle.std.proofs.lemmas.Bool.{cases_eq}
use Rattle.platform.specs.Units.{Device}
use Rattle.histories.specs.declared.rail.Rail.TheVariants.{Still}
use Rattle.histories.specs.Rails.{after}
use Rattle.histories.specs.Spans.{Safe}
use Rattle.histories.proofs.Shifts.{from, from_after}
use Rattle.histories.proofs.Orders.{safe_as}
use Rattle.openings.specs.Orders.{Among, Distinct, singly, NoSafeOrder}
use Rattle.ordering.specs.Sets.{bit, Mixes, count, place, Changes, InSet, Lists, CanMove}
use Rattle.ordering.specs.Steps.{moved_mix, Next, Movable, nothing, more}
use Rattle.ordering.proofs.Bits.{bit_same, bit_below, bits_same, bit_full, bit_none, bit_cases}
use Rattle.ordering.proofs.Ranks.{rank_rail, place_below, mix_out, mix_more, other_bit}
use Rattle.ordering.proofs.Orders.{Moves, ends, moves_script, script_moves, leaving_as, moves_push, ends_push, among_push, among_left, among_right, apart_push}

module _ (units : List Device) (x : Mixes) where
  pub movable_below : {s : ℕ} → Movable units x s → s < 2 ^ count x
  movable_below (nothing calm) = pow_pos (count x)
  movable_below (more {s} {r} w next) = bit_below (count x) s (place x r) (place_below x r next.changes) (movable_below w) next.out

  -- an order that has brought the mix to that of set s
  record Way (s : ℕ) : Type 0 where
    order : List ℕ
    lists : Lists x s order
    moves : Moves x.rails units x.last x.first order
    mix : (i : ℕ) → i < x.rails → ends x.last x.first order i ≡ moved_mix x s i

  way : {s : ℕ} → Movable units x s → Way s
  way (nothing calm) = record {
    order = [];
    lists = record { once = tt; only = λ r a. absurd a; every = λ r h. absurd (omega (arith, h.1, bit_none (place x r))) };
    moves = tt;
    mix = λ i l. sym (mix_out x 0 i (bit_none (place x i)));
  }
  way (more {s} {r} w next) =
      let u = way w in
      let t : ℕ = s + 2 ^ place x r in
      let here : bit t (place x r) ≡ 1 = bit_same s (place x r) next.out in
      let keep : (i : ℕ) → Changes x i → i ≢ r → bit t (place x i) ≡ bit s (place x i) = λ i ci ne. other_bit x s r i next.changes next.out ci.1 ne in
      let out : Among r u.order → ⊥ = λ a. omega (arith, (u.lists.only r a).1, next.out) in
      record {
        order = u.order ++ r ∷ [];
        lists = record {
          once = apart_push u.order r u.lists.once out;
          only = λ i a. ⊎_elim
              (λ b.
              let was = u.lists.only i b in
              (was.0, keep i was.0 (λ (e : i ≡ r). out (subst (λ (q : ℕ). Among q u.order) e b)) ∙ was.1))
              (λ (e : i ≡ r). subst (λ (q : ℕ). InSet x t q) (sym e) (next.changes, here))
              (among_push i u.order r a);
          every = λ i h. ⊎_elim
              (λ (e : i ≡ r). subst (λ (q : ℕ). Among q (u.order ++ r ∷ [])) (sym e) (among_right u.order r))
              (λ ne. among_left i u.order r (u.lists.every i (h.0, sym (keep i h.0 ne) ∙ h.1)))
              (cases_eq i r);
        };
        moves = moves_push x.rails units x.last x.first u.order r u.moves
            (leaving_as x.rails units x.last (moved_mix x s) (ends x.last x.first u.order) r (x.last r) (λ i l. sym (u.mix i l)) next.safe);
        mix = λ i l. ends_push x.last x.first u.order r i ∙ ap (λ (v : ℕ). cond (eqb i r) (x.last r) v) (u.mix i l) ∙ sym (mix_more x s r i next.changes next.out);
      }

  pub can_from_movable : {s : ℕ} → Movable units x s → CanMove units x s
  can_from_movable w =
      let u = way w in
      let n = x.rails in
      record {
        order = u.order;
        lists = u.lists;
        safe = λ k h. safe_as n units (from (λ i. Still (x.first i)) (singly x.last u.order) (suc k)) (after x.first (singly x.last u.order) (suc k))
            (from_after x.first (singly x.last u.order) (suc k))
            (moves_script n units x.last x.first u.order u.moves k h);
      }

  -- from a set that can be moved, an order of the rails that are left of set s
  onward : (s : ℕ) → s < 2 ^ count x → (t : ℕ) (m : ℕ → ℕ) (rest : List ℕ) → Movable units x t → ((i : ℕ) → i < x.rails → m i ≡ moved_mix x t i) → Distinct rest
      → ((r : ℕ) → Among r rest → Changes x r × (bit t (place x r) ≡ 0) × (bit s (place x r) ≡ 1))
      → ((r : ℕ) → Changes x r → (Among r rest → ⊥) → bit s (place x r) ≡ bit t (place x r))
      → Moves x.rails units x.last m rest → Movable units x s
  onward s below t m [] w e apart only rest moves =
      let same : s ≡ t = bits_same (count x) s t below (movable_below w)
      (λ j l. let q = rank_rail x.first x.last x.rails j l in
      subst (λ (k : ℕ). bit s k ≡ bit t k) q.1.2 (rest q.0 (q.1.0, q.1.1) (λ a. a))) in
      subst (Movable units x) (sym same) w
  onward s below t m (r ∷ rs) w e apart only rest moves =
      let of_r = only r (inl refl) in
      let next : Next units x t r = record { changes = of_r.0; out = of_r.1; safe = leaving_as x.rails units x.last m (moved_mix x t) r (x.last r) e moves.0 } in
      let u : ℕ = t + 2 ^ place x r in
      let keep : (i : ℕ) → Changes x i → i ≢ r → bit u (place x i) ≡ bit t (place x i) = λ i ci ne. other_bit x t r i of_r.0 of_r.1 ci.1 ne in
      onward s below u (λ i. cond (eqb i r) (x.last r) (m i)) rs (more w next)
      (λ i l. ap (λ (v : ℕ). cond (eqb i r) (x.last r) v) (e i l) ∙ sym (mix_more x t r i of_r.0 of_r.1))
      apart.1
      (λ i a. let was = only i (inr a) in (was.0, keep i was.0 (λ (q : i ≡ r). apart.0 (subst (λ (v : ℕ). Among v rs) q a)) ∙ was.1, was.2))
      (λ i ci out. ⊎_elim
      (λ (q : i ≡ r). subst (λ (v : ℕ). bit s (place x v) ≡ bit u (place x v)) (sym q) (of_r.2 ∙ sym (bit_same t (place x r) of_r.1)))
      (λ ne. rest i ci (⊎_elim (λ q. ne q) (λ a. out a)) ∙ sym (keep i ci ne))
      (cases_eq i r))
      moves.1

  pub movable_from_can : Safe x.rails units (λ i. Still (x.first i)) → (s : ℕ) → s < 2 ^ count x → CanMove units x s → Movable units x s
  movable_from_can calm s below c =
      let n = x.rails in
      onward s below 0 x.first c.order (nothing calm)
      (λ i l. sym (mix_out x 0 i (bit_none (place x i))))
      c.lists.once
      (λ r a. let h = c.lists.only r a in (h.0, bit_none (place x r), h.1))
      (λ r cr out. ⊎_elim (λ h. h ∙ sym (bit_none (place x r))) (λ h. absurd (out (c.lists.every r (cr, h)))) (bit_cases s (place x r)))
      (script_moves n units x.last x.first c.order
      (λ k h. safe_as n units (after x.first (singly x.last c.order) (suc k)) (from (λ i. Still (x.first i)) (singly x.last c.order) (suc k))
      (λ i. sym (from_after x.first (singly x.last c.order) (suc k) i))
      (c.safe k h)))

  full_in : (r : ℕ) → Changes x r → InSet x (2 ^ count x - 1) r
  full_in r c = (c, bit_full (count x) (place x r) (place_below x r c))

  -- where the set of all changed rails cannot be moved, no order is safe
  pub none_from_full : Safe x.rails units (λ i. Still (x.first i)) → (Movable units x (2 ^ count x - 1) → ⊥) → NoSafeOrder x.rails units x.first x.last
  none_from_full calm none order c s =
      none (movable_from_can calm (2 ^ count x - 1) (omega (arith, pow_pos (count x))) (record {
        order = order;
        lists = record { once = c.once; only = λ r a. full_in r (c.only r a); every = λ r h. c.every r h.0.0 h.0.1 };
        safe = s;
      }))

-- A relay board over any calls. Assumes nothing.
use Rattle.std.proofs.Common.{◌≡◌, ℕ, suc, ◌-◌, ◌<◌, Bool, cond, eqb, ltb, leb, List, length, sym, ap, ◌∙◌, subst, arith, eq-eqb, ne_eqb}
use native.Mathlib.Decide.{ℕ_discrete}
use Rattle.std.proofs.lemmas.Bool.Decides.{nat_tests}
use Rattle.boards.specs.declared.relay.RelayRail.{RelayRail}
use Rattle.boards.specs.Relay.{RelayBoard, target_of, left_of, rail_at, values, Sent, Asked, RelayStarted, RelayPolled}
use Rattle.makes.specs.Calls.{Ask, Since, none, polled, sent, answers}
use Rattle.makes.specs.Laws.{RelayWaits}
use Rattle.makes.proofs.Kept.{count_kept}

-- a rail with the delay d that was started from v towards t and has been polled m times since
pub record Waited (d v t m : ℕ) (x : RelayRail) : Type 0 where
  pub left : left_of x ≡ d - m
  pub value : x.value ≡ cond (ltb d m) t v
  pub target : target_of x ≡ t

over : (d m : ℕ) → eqb (d - m) 0 ≡ leb d m
over d m = grind (arith, nat_tests)

one_later : (d m : ℕ) → leb d m ≡ ltb d (suc m)
one_later d m = grind (arith, nat_tests)

jumped : (d m t v : ℕ) → cond (leb d m) t (cond (ltb d m) t v) ≡ cond (leb d m) t v
jumped d m t v = grind (arith, nat_tests)

sent_waited : (t : ℕ) (x y : RelayRail) → Sent t x y → Waited x.delay x.value t 0 y
sent_waited t x y s = record { left = omega (arith, s.left); value = s.value ∙ grind (arith, nat_tests); target = s.target }

module _ {d v t m : ℕ} {answer : Bool} {x y : RelayRail} (w : Waited d v t m x) (a : Asked answer x y) where
  pub told : answer ≡ leb d m
  told = a.over ∙ ap (λ n. eqb n 0) w.left ∙ over d m

  pub came : y.value ≡ cond (leb d m) t v
  came = cc (jumped d m t v, told)

  pub asked_waited : Waited d v t (suc m) y
  asked_waited = record { left = omega (arith, a.left, w.left); value = came ∙ ap (λ o. cond o t v) (one_later d m); target = a.target ∙ w.target }

pub since_waited : {d v t : ℕ} (r : ℕ) {b b' : RelayBoard} {asks : List Ask} → r < b.count → Waited d v t 0 (rail_at b r) → Since RelayStarted RelayPolled r b asks b' → Waited d v t (length (answers r asks)) (rail_at b' r)
since_waited r h w none = w
since_waited {d} {v} {t} r {b' = b''} h w (polled {b' = b'} {asks = asks} {ask = ask} p q) =
    let before = since_waited r h w p in
    let in_count : r < b'.count = omega (arith, count_kept p) in
    elim (ℕ_discrete r ask.rail) [
      | yes e ↦ rw (eq-eqb ask.rail r (sym e)) (asked_waited before (subst (λ i. Asked ask.answer (rail_at b' i) (rail_at b'' i)) (sym e) q.rails.rail))
      | no ne ↦ rw (ne_eqb ask.rail r (λ e. ne (sym e))) (subst (Waited d v t (length (answers r asks))) (sym (q.rails.others r in_count ne)) before)
    ]
since_waited {d} {v} {t} r {asks = asks} h w (sent {b' = b'} p ne q) =
    let in_count : r < b'.count = omega (arith, count_kept p) in
    subst (Waited d v t (length (answers r asks))) (sym (q.rails.others r in_count ne)) (since_waited r h w p)

pub relay_waits : RelayWaits
relay_waits b b' b'' b''' r t asks answer h start p q =
    let in_count : r < b'.count = omega (arith, start.count) in
    let w = since_waited r in_count (sent_waited t (rail_at b r) (rail_at b' r) start.rails.rail) p in
    let a = q.rails.rail in
    (told w a, came w a ∙ ap (λ o. cond o t (values b r)) (sym (told w a)))

-- A ramp bench over any calls. Assumes nothing.
use Rattle.std.proofs.Common.{◌≡◌, ℕ, suc, ◌+◌, ◌-◌, ◌*◌, ◌<◌, ◌≤◌, min, max, Bool, eqb, leb, List, length, get_or, sym, refl, ap, ◌∙◌, subst, inl, inr, suc-mul, zero-mul, add-one, arith}
use native.Mathlib.Decide.{ℕ_discrete}
use Rattle.std.proofs.lemmas.Bool.{cases_lt}
use Rattle.std.proofs.lemmas.Bool.Decides.{nat_tests}
use Rattle.boards.specs.declared.ramp.RampRail.{RampRail}
use Rattle.boards.specs.Rails.{Changed}
use Rattle.boards.specs.Ramp.{RampBench, target_of, rail_at, values, targets, rates, apart, towards, Sent, Asked, RampStarted, RampPolled}
use Rattle.makes.specs.Calls.{Ask, Since, none, polled, sent}
use Rattle.makes.specs.Laws.{RampArrives}
use Rattle.makes.proofs.Kept.{count_kept}

towards_none : (v t : ℕ) → v ≡ towards v t 0
towards_none v t = omega arith

towards_up : (v t d : ℕ) → v ≤ t → towards v t d ≡ min t (v + d)
towards_up v t d h = omega arith

towards_down : (v t d : ℕ) → t ≤ v → towards v t d ≡ max (v - d) t
towards_down v t d h = omega arith

max_more : (v t a d : ℕ) → max (max (v - a) t - d) t ≡ max (v - (a + d)) t
max_more v t a d = omega arith

min_more : (v t a d : ℕ) → min t (min t (v + a) + d) ≡ min t (v + (a + d))
min_more v t a d = omega arith

-- d mV after a mV are a + d mV
towards_more : (v t a d : ℕ) → towards (towards v t a) t d ≡ towards v t (a + d)
towards_more v t a d = elim (cases_lt t v) [
  | inl h ↦
      let past = towards_down v t (a + d) (omega arith) in
      rw (towards_down v t a (omega arith)) (towards_down (max (v - a) t) t d (omega arith) ∙ max_more v t a d ∙ sym past)
  | inr h ↦
      let past = towards_up v t (a + d) h in
      rw (towards_up v t a h) (towards_up (min t (v + a)) t d (omega arith) ∙ min_more v t a d ∙ sym past)
]

far_enough : (v t d : ℕ) → eqb (towards v t d) t ≡ leb (apart v t) d
far_enough v t d = grind (arith, nat_tests)

-- what holds of the changed row and of every other holds of each row
pub each_row : {Row : Type 0} {blank : Row} {n r : ℕ} {here there : Row → Row → Type 0} {xs ys : List Row} (Q : Row → Row → Type 0)
    → ((x y : Row) → here x y → Q x y)
    → ((x y : Row) → there x y → Q x y)
    → Changed blank n r here there xs ys
    → (i : ℕ) → i < n → Q (get_or xs i blank) (get_or ys i blank)
each_row {blank = blank} {r = r} {xs = xs} {ys = ys} Q f g c i h = elim (ℕ_discrete i r) [
  | yes e ↦ subst (λ j. Q (get_or xs j blank) (get_or ys j blank)) (sym e) (f _ _ c.rail)
  | no ne ↦ g _ _ (c.others i h ne)
]

-- a rail that has gone d mV towards its target
pub record Gone (d : ℕ) (x y : RampRail) : Type 0 where
  pub value : y.value ≡ towards x.value (target_of x) d
  pub target : target_of y ≡ target_of x
  pub rate : y.rate ≡ x.rate

-- every poll moves every rail
pub polled_gone : {b b' : RampBench} {i : ℕ} {a : Bool} (r : ℕ) → r < b.count → RampPolled b i a b' → Gone (rates b r) (rail_at b r) (rail_at b' r)
polled_gone r h p =
    each_row (λ x y. Gone x.rate x y)
    (λ x y m. record { value = m.value; target = m.target; rate = m.rate })
    (λ x y m. record { value = m.value; target = m.target; rate = m.rate })
    p.rails r h

gone_more : (a d : ℕ) (x y z : RampRail) → Gone a x y → Gone d y z → Gone (a + d) x z
gone_more a d x y z g h = record {
  value = cc (towards_more x.value (target_of x) a d);
  target = h.target ∙ g.target;
  rate = h.rate ∙ g.rate;
}

pub since_gone : (r : ℕ) {b b' : RampBench} {asks : List Ask} → r < b.count → Since RampStarted RampPolled r b asks b' → Gone (length asks * rates b r) (rail_at b r) (rail_at b' r)
since_gone r {b} h none = record { value = rw (zero-mul (rates b r)) (towards_none (values b r) (targets b r)); target = refl; rate = refl }
since_gone r {b = b} {b' = b''} h (polled {b' = b'} {asks = asks} p q) =
    let gone = since_gone r h p in
    let in_count : r < b'.count = omega (arith, count_kept p) in
    let more = subst (λ d. Gone d (rail_at b' r) (rail_at b'' r)) gone.rate (polled_gone r in_count q) in
    rw (suc-mul (length asks) (rates b r)) (gone_more (length asks * rates b r) (rates b r) (rail_at b r) (rail_at b' r) (rail_at b'' r) gone more)
since_gone r {b = b} {asks = asks} h (sent {b' = b'} p ne q) =
    let in_count : r < b'.count = omega (arith, count_kept p) in
    subst (Gone (length asks * rates b r) (rail_at b r)) (sym (q.rails.others r in_count ne)) (since_gone r h p)

-- a rail that was sent towards t, and has gone d mV since
sent_gone : (d t : ℕ) (x y z : RampRail) → Sent t x y → Gone d y z → z.value ≡ towards x.value t d
sent_gone d t x y z s g = cc

-- the answer to the poll by which it has gone so far
told : (answer : Bool) (d v t : ℕ) (y z : RampRail) → Asked answer y z → target_of y ≡ t → z.value ≡ towards v t d → answer ≡ leb (apart v t) d
told answer d v t y z a e w = a.arrived ∙ ap (λ x. eqb z.value x) e ∙ ap (λ x. eqb x t) w ∙ far_enough v t d

pub ramp_arrives : RampArrives
ramp_arrives b b' b'' b''' r t asks answer h start p q =
    let began = start.rails.rail in
    let in_count : r < b'.count = omega (arith, start.count) in
    let gone = since_gone r in_count (polled {ask = record { rail = r; answer = answer }} p q) in
    let far = sent_gone (suc (length asks) * rates b r) t (rail_at b r) (rail_at b' r) (rail_at b''' r) began (rw began.rate at gone) in
    let target = sym q.rails.rail.target ∙ gone.target ∙ began.target in
    rw (add-one (length asks)) (far, told answer (suc (length asks) * rates b r) (values b r) t (rail_at b'' r) (rail_at b''' r) q.rails.rail target far)

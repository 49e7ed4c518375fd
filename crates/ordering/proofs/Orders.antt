-- Orders, their scripts and the mixes that they lead through. Assumes nothing.
use Rattle.std.proofs.Common.{◌≡◌, ℕ, zero, suc, ◌<◌, true, false, cond, eqb, ◌⊎◌, List, [], ◌∷◌, ◌++◌, length, sym, refl, ◌∙◌, subst, inl, inr, ⊎_elim, arith}
use Rattle.platform.specs.Units.{Device, value_of}
use Rattle.histories.specs.declared.rail.Rail.{Rail}
use Rattle.histories.specs.declared.rail.Rail.TheVariants.{Still, Moving}
use Rattle.histories.specs.declared.step.Step.{Step}
use Rattle.histories.specs.declared.step.Step.TheVariants.{Start, Wait}
use Rattle.histories.specs.Rails.{end_of, stepped}
use Rattle.histories.specs.Spans.{InSpan, Safe}
use Rattle.histories.proofs.Shifts.{from, from_next, from_same}
use Rattle.histories.proofs.Orders.{safe_as, still_safe, moved, sent}
use Rattle.openings.specs.Orders.{Among, Distinct, singly}
use Rattle.ordering.specs.Steps.{leaving}

-- each rail of the order can leave from where those before it have brought the mix
abbrev pub Moves : ℕ → List Device → (ℕ → ℕ) → (ℕ → ℕ) → List ℕ → Type 0
Moves n units last mix [] = Unit {0}
Moves n units last mix (r ∷ rs) = Safe n units (leaving mix r (last r)) × Moves n units last (λ i. cond (eqb i r) (last r) (mix i)) rs

-- the mix at the end of an order
abbrev pub ends : (ℕ → ℕ) → (ℕ → ℕ) → List ℕ → ℕ → ℕ
ends last mix [] i = mix i
ends last mix (r ∷ rs) i = ends last (λ j. cond (eqb j r) (last r) (mix j)) rs i

module _ (n : ℕ) (units : List Device) (last : ℕ → ℕ) where
  -- two steps on, the script goes on from the mix with rail r sent
  two_on : (m : ℕ → ℕ) (r : ℕ) (l : List Step) (k i : ℕ) → from (λ j. Still (sent n units m r (last r) j)) l k i ≡ from (λ j. Still (m j)) (Start r (last r) ∷ Wait r ∷ l) (suc (suc k)) i
  two_on m r l k i =
      let still_m : ℕ → Rail = λ j. Still (m j) in
      let one : ℕ → Rail = stepped (Start r (last r) ∷ Wait r ∷ l) still_m in
      let two : ℕ → Rail = stepped (Wait r ∷ l) one in
      from_same (λ j. Still (sent n units m r (last r) j)) two l k (λ j. sym (moved n units m r (last r) l (Wait r ∷ l) j)) i
      ∙ sym (from_next one (Wait r) l k i)
      ∙ sym (from_next still_m (Start r (last r)) (Wait r ∷ l) (suc k) i)

  pub moves_script : (m : ℕ → ℕ) (order : List ℕ) → Moves n units last m order → (k : ℕ) → k < length (singly last order) → Safe n units (from (λ i. Still (m i)) (singly last order) (suc k))
  moves_script m [] w k h = absurd (omega arith)
  moves_script m (r ∷ rs) w zero h = w.0
  moves_script m (r ∷ rs) w (suc zero) h =
      let one : ℕ → Rail = stepped (Start r (last r) ∷ Wait r ∷ singly last rs) (λ i. Still (m i)) in
      safe_as n units (λ i. Still (sent n units m r (last r) i)) (from (λ i. Still (m i)) (singly last (r ∷ rs)) 2)
      (λ i. sym (moved n units m r (last r) (singly last rs) (Wait r ∷ singly last rs) i))
      (still_safe n units one (sent n units m r (last r)) (λ i h. elim (eqb i r) as (λ b. cond b (last r) (m i) ≡ end_of (cond b (Moving (m i) (last r)) (Still (m i)))) [ true ↦ refl | false ↦ refl ]) w.0)
  moves_script m (r ∷ rs) w (suc (suc k)) h =
      safe_as n units (from (λ i. Still (sent n units m r (last r) i)) (singly last rs) (suc k)) (from (λ i. Still (m i)) (singly last (r ∷ rs)) (suc (suc (suc k))))
      (two_on m r (singly last rs) (suc k))
      (moves_script (sent n units m r (last r)) rs w.1 k (omega arith))

  pub script_moves : (m : ℕ → ℕ) (order : List ℕ) → ((k : ℕ) → k < length (singly last order) → Safe n units (from (λ i. Still (m i)) (singly last order) (suc k))) → Moves n units last m order
  script_moves m [] w = tt
  script_moves m (r ∷ rs) w = (
    w 0 (omega arith),
    script_moves (sent n units m r (last r)) rs
        (λ k h.
        safe_as n units (from (λ i. Still (m i)) (singly last (r ∷ rs)) (suc (suc (suc k)))) (from (λ i. Still (sent n units m r (last r) i)) (singly last rs) (suc k))
        (λ i. sym (two_on m r (singly last rs) (suc k) i))
        (w (suc (suc k)) (omega arith))),
  )

  -- a rail leaves as safely from a mix with the same values
  pub leaving_as : (m m' : ℕ → ℕ) (r t : ℕ) → ((i : ℕ) → i < n → m i ≡ m' i) → Safe n units (leaving m r t) → Safe n units (leaving m' r t)
  leaving_as m m' r t e s mix h =
      s mix (λ i l. subst (λ v. InSpan (cond (eqb i r) (Moving v t) (Still v)) (value_of mix i)) (sym (e i l)) (h i l))

  pub moves_push : (m : ℕ → ℕ) (order : List ℕ) (r : ℕ) → Moves n units last m order → Safe n units (leaving (ends last m order) r (last r)) → Moves n units last m (order ++ r ∷ [])
  moves_push m [] r w s = (s, tt)
  moves_push m (q ∷ qs) r w s = (w.0, moves_push (λ j. cond (eqb j q) (last q) (m j)) qs r w.1 s)

pub ends_push : (last m : ℕ → ℕ) (order : List ℕ) (r i : ℕ) → ends last m (order ++ r ∷ []) i ≡ cond (eqb i r) (last r) (ends last m order i)
ends_push last m [] r i = refl
ends_push last m (q ∷ qs) r i = ends_push last (λ j. cond (eqb j q) (last q) (m j)) qs r i

pub among_push : (i : ℕ) (order : List ℕ) (r : ℕ) → Among i (order ++ r ∷ []) → Among i order ⊎ (i ≡ r)
among_push i [] r (inl e) = inr e
among_push i [] r (inr a) = inl a
among_push i (q ∷ qs) r (inl e) = inl (inl e)
among_push i (q ∷ qs) r (inr a) = ⊎_elim (λ h. inl (inr h)) (λ e. inr e) (among_push i qs r a)

pub among_left : (i : ℕ) (order : List ℕ) (r : ℕ) → Among i order → Among i (order ++ r ∷ [])
among_left i [] r a = absurd a
among_left i (q ∷ qs) r (inl e) = inl e
among_left i (q ∷ qs) r (inr a) = inr (among_left i qs r a)

pub among_right : (order : List ℕ) (r : ℕ) → Among r (order ++ r ∷ [])
among_right [] r = inl refl
among_right (q ∷ qs) r = inr (among_right qs r)

pub apart_push : (order : List ℕ) (r : ℕ) → Distinct order → (Among r order → ⊥) → Distinct (order ++ r ∷ [])
apart_push [] r a out = (λ h. h, tt)
apart_push (q ∷ qs) r a out = (
  λ h. ⊎_elim a.0 (λ e. out (inl (sym e))) (among_push q qs r h),
  apart_push qs r a.1 (λ h. out (inr h)),
)

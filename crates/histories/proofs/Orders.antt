-- A safe script gives a safe order: that of its starts. Assumes nothing.
use Rattle.std.proofs.Common.{◌≡◌, ℕ, zero, suc, ◌<◌, ◌≤◌, true, false, cond, eqb, List, [], ◌∷◌, length, drop, sym, refl, ap, ◌∙◌, subst, inl, inr, arith, eq-eqb, ne_eqb}
use Rattle.platform.specs.Units.{Device, value_of}
use Rattle.boards.specs.Meaning.{Between}
use Rattle.histories.specs.declared.rail.Rail.{Rail}
use Rattle.histories.specs.declared.rail.Rail.TheVariants.{Still, Moving}
use Rattle.histories.specs.declared.step.Step.{Step}
use Rattle.histories.specs.declared.step.Step.TheVariants.{Start, Wait}
use Rattle.histories.specs.Rails.{end_of, stepped, after, last_mix, Ready}
use Rattle.histories.specs.Spans.{InSpan, Safe}
use Rattle.histories.specs.Orders.{Among, Distinct, singly, started, NoWayRound}
use Rattle.histories.proofs.Opening.{safe_at}
use Rattle.histories.proofs.Kept.{start_here, start_there, by_rail}
use Rattle.histories.proofs.Ends.{end_stepped}
use Rattle.histories.proofs.Shifts.{from, from_after, from_next, from_same}

-- a rail's end is in its span
pub in_end : (s : Rail) → InSpan s (end_of s)
in_end (Still v) = refl
in_end (Moving o t) = omega arith

module _ (n : ℕ) (units : List Device) where
  -- the same rails are as safe
  pub safe_as : (a b : ℕ → Rail) → ((i : ℕ) → a i ≡ b i) → Safe n units a → Safe n units b
  safe_as a b e s mix h = s mix (λ i l. subst (λ (s : Rail). InSpan s (value_of mix i)) (sym (e i)) (h i l))

  -- the moves of a script made singly
  abbrev pub apart : List Step → List Step
  apart [] = []
  apart (Start r t ∷ rest) = Start r t ∷ Wait r ∷ apart rest
  apart (Wait r ∷ rest) = apart rest

  -- every step of the script is in form and safe from these rails on
  abbrev pub Sound : (ℕ → Rail) → List Step → Type 0
  Sound rails script = (k : ℕ) → k ≤ length script → Ready n (drop k script) (from rails script k) × Safe n units (from rails script k)

  -- a step that is in form for rails is so for the same rails
  pub ready_as : (l : List Step) (a b : ℕ → Rail) → ((i : ℕ) → a i ≡ b i) → Ready n l a → Ready n l b
  ready_as [] a b e h = λ i l. ((h i l).0, sym (e i) ∙ (h i l).1)
  ready_as (Start r t ∷ rest) a b e h = (h.0, (h.1.0, sym (e r) ∙ h.1.1))
  ready_as (Wait r ∷ rest) a b e h = (h.0, (h.1.0, h.1.1, sym (e r) ∙ h.1.2))

  -- and so from the next step on
  sound_next : (rails : ℕ → Rail) (s : Step) (rest : List Step) → Sound rails (s ∷ rest) → Sound (stepped (s ∷ rest) rails) rest
  sound_next rails s rest h k l =
      let w = h (suc k) (omega arith) in (
        ready_as (drop k rest) (from rails (s ∷ rest) (suc k)) (from (stepped (s ∷ rest) rails) rest k) (from_next rails s rest k) w.0,
        safe_as (from rails (s ∷ rest) (suc k)) (from (stepped (s ∷ rest) rails) rest k) (from_next rails s rest k) w.1,
      )

  -- rails that stand where safe rails come to are safe
  pub still_safe : (rails : ℕ → Rail) (m : ℕ → ℕ) → ((i : ℕ) → i < n → m i ≡ end_of (rails i)) → Safe n units rails → Safe n units (λ i. Still (m i))
  still_safe rails m e s mix h = s mix (λ i l. rw (h i l ∙ e i l) (in_end (rails i)))

  -- and so are they with one of them moving as it does in the script
  start_safe : (rails : ℕ → Rail) (m : ℕ → ℕ) (r t : ℕ) (rest l : List Step) → (v : ℕ) × (rails r ≡ Still v) → r < n → ((i : ℕ) → i < n → m i ≡ end_of (rails i))
      → Safe n units (stepped (Start r t ∷ rest) rails) → Safe n units (stepped (Start r t ∷ l) (λ i. Still (m i)))
  start_safe rails m r t rest l v lt e s mix h =
      s mix (by_rail (λ i. InSpan (stepped (Start r t ∷ rest) rails i) (value_of mix i)) n r
      (let was : Between (m r) t (value_of mix r) = rw (start_here (λ i. Still (m i)) r t (m r) l refl) at (h r lt) in
      let at_v : m r ≡ v.0 = e r lt ∙ ap end_of v.1 in
      rw (start_here rails r t v.0 rest v.1) (rw at_v at was))
      (λ i il ne.
      let was : value_of mix i ≡ m i = rw (start_there (λ i. Still (m i)) r t i l ne) at (h i il) in
      rw (start_there rails r t i rest ne, was ∙ e i il) (in_end (rails i))))

  -- the values once rail r has come to t
  abbrev pub sent : (ℕ → ℕ) → ℕ → ℕ → ℕ → ℕ
  sent m r t i = cond (eqb i r) t (m i)

  -- a start and its wait, made at once
  pub moved : (m : ℕ → ℕ) (r t : ℕ) (l l' : List Step) (i : ℕ) → stepped (Wait r ∷ l) (stepped (Start r t ∷ l') (λ j. Still (m j))) i ≡ Still (sent m r t i)
  moved m r t l l' i =
      elim (eqb i r) as (λ b. cond b (Still (end_of (cond b (Moving (m i) t) (Still (m i))))) (cond b (Moving (m i) t) (Still (m i))) ≡ Still (cond b t (m i))) [ true ↦ refl | false ↦ refl ]

  -- the moves made singly are safe
  pub apart_safe : (script : List Step) (rails : ℕ → Rail) (m : ℕ → ℕ) → Sound rails script → ((i : ℕ) → i < n → m i ≡ end_of (rails i))
      → (k : ℕ) → k ≤ length (apart script) → Safe n units (from (λ i. Still (m i)) (apart script) k)
  apart_safe [] rails m h e zero l = still_safe rails m e (h 0 (omega arith)).1
  apart_safe [] rails m h e (suc k) l = absurd (omega arith)
  apart_safe (Wait r ∷ rest) rails m h e k l =
      apart_safe rest (stepped (Wait r ∷ rest) rails) m (sound_next rails (Wait r) rest h) (λ i il. e i il ∙ sym (end_stepped (Wait r ∷ rest) rails i)) k l
  apart_safe (Start r t ∷ rest) rails m h e zero l = still_safe rails m e (h 0 (omega arith)).1
  apart_safe (Start r t ∷ rest) rails m h e (suc zero) l =
      let rd = (h 0 (omega arith)).0 in
      start_safe rails m r t rest (Wait r ∷ apart rest) rd.1 rd.0 e (h 1 (omega arith)).1
  apart_safe (Start r t ∷ rest) rails m h e (suc (suc k)) l =
      let still_m : ℕ → Rail = λ i. Still (m i) in
      let one : ℕ → Rail = stepped (Start r t ∷ Wait r ∷ apart rest) still_m in
      let two : ℕ → Rail = stepped (Wait r ∷ apart rest) one in
      let ih = apart_safe rest (stepped (Start r t ∷ rest) rails) (sent m r t) (sound_next rails (Start r t) rest h)
      (λ i il. ap (λ x. cond (eqb i r) t x) (e i il) ∙ sym (end_stepped (Start r t ∷ rest) rails i)) k (omega arith) in
      safe_as (from (λ i. Still (sent m r t i)) (apart rest) k) (from still_m (Start r t ∷ Wait r ∷ apart rest) (suc (suc k)))
      (λ i.
      from_same (λ j. Still (sent m r t j)) two (apart rest) k (λ j. sym (moved m r t (apart rest) (Wait r ∷ apart rest) j)) i
      ∙ sym (from_next one (Wait r) (apart rest) k i)
      ∙ sym (from_next still_m (Start r t) (Wait r ∷ apart rest) (suc k) i))
      ih

-- a rail that is not started keeps its value
last_unstarted : (script : List Step) (first : ℕ → ℕ) (i : ℕ) → (Among i (started script) → ⊥) → last_mix first script i ≡ first i
last_unstarted [] first i h = refl
last_unstarted (Start r t ∷ rest) first i h =
    last_unstarted rest (λ j. cond (eqb j r) t (first j)) i (λ a. h (inr a)) ∙ rw (ne_eqb i r (λ e. h (inl e)))
last_unstarted (Wait r ∷ rest) first i h = last_unstarted rest first i h

-- the moves of a script that starts each rail once are those to its last mix
apart_singly : (n : ℕ) (units : List Device) (script : List Step) (first last : ℕ → ℕ) → Distinct (started script) → ((r : ℕ) → Among r (started script) → last_mix first script r ≡ last r) → apart n units script ≡ singly last (started script)
apart_singly n units [] first last a h = refl
apart_singly n units (Wait r ∷ rest) first last a h = apart_singly n units rest first last a h
apart_singly n units (Start r t ∷ rest) first last a h =
    let to : t ≡ last r =
    sym (last_unstarted rest (λ j. cond (eqb j r) t (first j)) r a.0 ∙ rw (eq-eqb r r refl)) ∙ h r (inl refl) in
    rw (to, apart_singly n units rest (λ j. cond (eqb j r) t (first j)) last a.1 (λ s m. h s (inr m)))

pub no_way_round : NoWayRound
no_way_round units q last b none changed ends o =
    let n = q.rails in
    let still_first : ℕ → Rail = λ i. Still (q.first i) in
    let sound : Sound n units still_first q.script =
    λ k l. (
      ready_as n units (drop k q.script) (after q.first q.script k) (from still_first q.script k) (λ i. sym (from_after q.first q.script k i)) (o.formed k l),
      safe_as n units (after q.first q.script k) (from still_first q.script k) (λ i. sym (from_after q.first q.script k i)) (safe_at o k l),
    ) in
    let eq = apart_singly n units q.script q.first last changed.once (λ r m. ends r (changed.only r m).0) in
    let order = started q.script in
    none order changed
    (λ k l.
    safe_as n units (from still_first (singly last order) (suc k)) (after q.first (singly last order) (suc k)) (from_after q.first (singly last order) (suc k))
    (subst (λ s. suc k ≤ length s → Safe n units (from still_first s (suc k))) eq (apart_safe n units q.script still_first q.first sound (λ i il. refl) (suc k)) l))

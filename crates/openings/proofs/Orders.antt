-- A safe script gives a safe order: that of its starts. Assumes nothing.
use Rattle.std.proofs.Common.{◌≡◌, ℕ, suc, ◌≤◌, cond, eqb, List, [], ◌∷◌, length, drop, sym, refl, ◌∙◌, subst, inl, inr, eq-eqb, ne_eqb}
use Rattle.platform.specs.Units.{Device}
use Rattle.histories.specs.declared.rail.Rail.{Rail}
use Rattle.histories.specs.declared.rail.Rail.TheVariants.{Still}
use Rattle.histories.specs.declared.step.Step.{Step}
use Rattle.histories.specs.declared.step.Step.TheVariants.{Start, Wait}
use Rattle.histories.specs.Rails.{after, last_mix}
use Rattle.histories.specs.Spans.{Safe}
use Rattle.openings.specs.Orders.{Among, Distinct, singly, started, NoWayRound}
use Rattle.openings.proofs.Opening.{ground, safe_at}
use Rattle.histories.proofs.Shifts.{from, from_after}
use Rattle.histories.proofs.Orders.{safe_as, apart, Sound, ready_as, apart_safe}

-- a rail that is not started keeps its value
last_unstarted : (script : List Step) (first : ℕ → ℕ) (i : ℕ) → (Among i (started script) → ⊥) → last_mix first script i ≡ first i
last_unstarted [] first i h = refl
last_unstarted (Start r t ∷ rest) first i h =
    last_unstarted rest (λ j. cond (eqb j r) t (first j)) i (λ a. h (inr a)) ∙ rw (ne_eqb i r (λ e. h (inl e)))
last_unstarted (Wait r ∷ rest) first i h = last_unstarted rest first i h

-- the moves of a script that starts each rail once are those to its last mix
apart_singly : (n : ℕ) (units : List Device) (script : List Step) (first last : ℕ → ℕ) → Distinct (started script) → ((r : ℕ) → Among r (started script) → last_mix first script r ≡ last r) → apart n units script ≡ singly last (started script)
apart_singly n units [] first last a h = refl
apart_singly n units (Wait r ∷ rest) first last a h = apart_singly n units rest first last a h
apart_singly n units (Start r t ∷ rest) first last a h =
    let to : t ≡ last r =
    sym (last_unstarted rest (λ j. cond (eqb j r) t (first j)) r a.0 ∙ rw (eq-eqb r r refl)) ∙ h r (inl refl) in
    rw (to, apart_singly n units rest (λ j. cond (eqb j r) t (first j)) last a.1 (λ s m. h s (inr m)))

pub no_way_round : NoWayRound
no_way_round units q last count b fit none changed ends op =
    let n = q.rails in
    let o = ground fit op in
    let still_first : ℕ → Rail = λ i. Still (q.first i) in
    let sound : Sound n units still_first q.script =
    λ k l. (
      ready_as n units (drop k q.script) (after q.first q.script k) (from still_first q.script k) (λ i. sym (from_after q.first q.script k i)) (o.formed k l),
      safe_as n units (after q.first q.script k) (from still_first q.script k) (λ i. sym (from_after q.first q.script k i)) (safe_at o k l),
    ) in
    let eq = apart_singly n units q.script q.first last changed.once (λ r m. ends r (changed.only r m).0) in
    let order = started q.script in
    none order changed
    (λ k l.
    safe_as n units (from still_first (singly last order) (suc k)) (after q.first (singly last order) (suc k)) (from_after q.first (singly last order) (suc k))
    (subst (λ s. suc k ≤ length s → Safe n units (from still_first s (suc k))) eq (apart_safe n units q.script still_first q.first sound (λ i il. refl) (suc k)) l))

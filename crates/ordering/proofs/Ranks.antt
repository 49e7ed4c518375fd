-- The numbers of the changed rails, and the mixes of their sets. Assumes nothing.
use Rattle.std.proofs.Common.{◌≡◌, ℕ, zero, suc, ◌+◌, ◌^◌, ◌<◌, ◌≤◌, true, false, cond, eqb, ◌≢◌, sym, refl, ap, ◌∙◌, ⊎_elim, arith, Bool}
use Rattle.std.proofs.lemmas.Bool.{eq-eqb, ne_eqb, cases_eq, cases_lt, cases_order, cond-true, cond-false}
use Rattle.ordering.specs.Sets.{rank, bit, Mixes, count, place, Changes}
use Rattle.ordering.specs.Steps.{moved_mix}
use Rattle.ordering.proofs.Bits.{bit_same, bit_other, bit_cases, bit_below}

rank_more : (first last : ℕ → ℕ) (r : ℕ) → first r ≢ last r → rank first last (suc r) ≡ rank first last r + 1
rank_more first last r ne = ap (λ b. rank first last r + cond b 0 1) (ne_eqb _ _ ne)

pub rank_up : (first last : ℕ → ℕ) (i r : ℕ) → i ≤ r → rank first last i ≤ rank first last r
rank_up first last i zero h = let e : i ≡ 0 = omega arith in rw e (omega arith)
rank_up first last i (suc r) h =
    ⊎_elim (λ (e : i ≡ suc r). rw e (omega arith)) (λ ne. omega (arith, rank_up first last i r (omega arith))) (cases_eq i (suc r))

rank_less : (first last : ℕ → ℕ) (i r : ℕ) → first i ≢ last i → i < r → rank first last i < rank first last r
rank_less first last i r ne h = omega (arith, rank_up first last (suc i) r h, rank_more first last i ne)

-- two changed rails have different numbers
rank_apart : (first last : ℕ → ℕ) (i r : ℕ) → first i ≢ last i → first r ≢ last r → i ≢ r → rank first last i ≢ rank first last r
rank_apart first last i r ci cr ne e =
    ⊎_elim ne (⊎_elim (λ lt. omega (arith, rank_less first last i r ci lt)) (λ gt. omega (arith, rank_less first last r i cr gt))) (cases_order i r)

-- each number has its rail
pub rank_rail : (first last : ℕ → ℕ) (n j : ℕ) → j < rank first last n → (r : ℕ) × ((r < n) × (first r ≢ last r) × (rank first last r ≡ j))
rank_rail first last zero j h = absurd (omega arith)
rank_rail first last (suc n) j h =
    ⊎_elim
    (λ less. let w = rank_rail first last n j less in (w.0, (omega (arith, w.1.0), w.1.1, w.1.2)))
    (λ least.
    ⊎_elim
    (λ (e : first n ≡ last n). absurd (omega (arith, ap (λ b. rank first last n + cond b 0 1) (eq-eqb (first n) (last n) e))))
    (λ ne. (n, (omega arith, ne, omega (arith, rank_more first last n ne))))
    (cases_eq (first n) (last n)))
    (cases_lt j (rank first last n))

pub rank_most : (first last : ℕ → ℕ) (r : ℕ) → rank first last r ≤ r
rank_most first last zero = omega arith
rank_most first last (suc r) =
    let small : (b : Bool) → cond b 0 1 ≤ 1 = λ b. elim b as (λ v. cond v 0 1 ≤ 1) [ true ↦ omega arith | false ↦ omega arith ] in
    omega (arith, rank_most first last r, small (eqb (first r) (last r)))

module _ (x : Mixes) where
  pub place_below : (r : ℕ) → Changes x r → place x r < count x
  place_below r c = rank_less x.first x.last r x.rails c.1 c.0

  -- one rail more
  pub mix_here : (s r : ℕ) → bit s (place x r) ≡ 1 → moved_mix x s r ≡ x.last r
  mix_here s r e = cond-true _ _ _ (eq-eqb _ _ e)

  pub mix_out : (s r : ℕ) → bit s (place x r) ≡ 0 → moved_mix x s r ≡ x.first r
  mix_out s r e = cond-false _ _ _ (ne_eqb (bit s (place x r)) 1 (λ h. omega arith))

  pub mix_still : (s r : ℕ) → x.first r ≡ x.last r → moved_mix x s r ≡ x.first r
  mix_still s r e = ⊎_elim (λ h. mix_out s r h) (λ h. mix_here s r h ∙ sym e) (bit_cases s (place x r))

  mix_same : (s t i : ℕ) → bit s (place x i) ≡ bit t (place x i) → moved_mix x s i ≡ moved_mix x t i
  mix_same s t i e = ap (λ b. cond (eqb b 1) (x.last i) (x.first i)) e

  pub other_bit : (s r i : ℕ) → Changes x r → bit s (place x r) ≡ 0 → x.first i ≢ x.last i → i ≢ r → bit (s + 2 ^ place x r) (place x i) ≡ bit s (place x i)
  other_bit s r i c out ci ne = bit_other s (place x r) (place x i) (rank_apart x.first x.last i r ci c.1 ne) out

  pub mix_more : (s r i : ℕ) → Changes x r → bit s (place x r) ≡ 0 → moved_mix x (s + 2 ^ place x r) i ≡ cond (eqb i r) (x.last r) (moved_mix x s i)
  mix_more s r i c out =
      ⊎_elim
      (λ (e : i ≡ r). rw e (mix_here (s + 2 ^ place x r) r (bit_same s (place x r) out) ∙ sym (cond-true _ _ _ (eq-eqb r r refl))))
      (λ ne.
      ⊎_elim
      (λ (e : x.first i ≡ x.last i). mix_still (s + 2 ^ place x r) i e ∙ sym (mix_still s i e))
      (λ ci. mix_same (s + 2 ^ place x r) s i (other_bit s r i c out ci ne))
      (cases_eq (x.first i) (x.last i))
      ∙ sym (cond-false _ _ _ (ne_eqb i r ne)))
      (cases_eq i r)

  pub place_most : (r : ℕ) → r < x.rails → place x r ≤ count x
  place_most r l = rank_up x.first x.last r x.rails (omega arith)

  pub with_below : (s r : ℕ) → Changes x r → s < 2 ^ count x → bit s (place x r) ≡ 0 → s + 2 ^ place x r < 2 ^ count x
  with_below s r c lt out = bit_below (count x) s (place x r) (place_below r c) lt out

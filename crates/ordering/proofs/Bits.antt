-- One bit more in a number, by halves. Assumes nothing.
use Rattle.std.proofs.Common.{◌≡◌, ℕ, zero, suc, ◌+◌, ◌-◌, ◌/◌, ◌%◌, ◌^◌, ◌<◌, ◌≤◌, ◌≢◌, ◌⊎◌, sym, refl, ap, ◌∙◌, inl, inr, ⊎_elim, pow-suc, arith, pow_pos}
use native.Mathlib.Nat.{pow-succ', div-div-eq-div-mul, zero-div}
use Rattle.std.specs.Int.Count.{ones, ones_step}
use Rattle.std.proofs.lemmas.Bool.{cases_lt}
use Rattle.ordering.specs.Sets.{bit}

pub bit_half : (s j : ℕ) → bit s (suc j) ≡ bit (s / 2) j
bit_half s j = ap (λ (x : ℕ). x % 2) (ap (λ (x : ℕ). s / x) (pow-succ' 2 j) ∙ sym (div-div-eq-div-mul s 2 (2 ^ j)))

-- a number with 2 ^ suc j more has 2 ^ j more in its half, and the same last bit
half_more : (s j : ℕ) → (s + 2 ^ suc j) / 2 ≡ s / 2 + 2 ^ j
half_more s j = omega (arith, pow-suc 2 j)

last_more : (s j : ℕ) → (s + 2 ^ suc j) % 2 ≡ s % 2
last_more s j = omega (arith, pow-suc 2 j)

bit_more : (s j k : ℕ) → bit (s + 2 ^ suc j) (suc k) ≡ bit (s / 2 + 2 ^ j) k
bit_more s j k = bit_half (s + 2 ^ suc j) k ∙ ap (λ (x : ℕ). bit x k) (half_more s j)

-- the bit that is put in
pub bit_same : (s j : ℕ) → bit s j ≡ 0 → bit (s + 2 ^ j) j ≡ 1
bit_same s zero h = omega arith
bit_same s (suc j) h = bit_more s j j ∙ bit_same (s / 2) j (sym (bit_half s j) ∙ h)

-- every other bit
pub bit_other : (s j k : ℕ) → k ≢ j → bit s j ≡ 0 → bit (s + 2 ^ j) k ≡ bit s k
bit_other s zero zero ne h = absurd (ne refl)
bit_other s zero (suc k) ne h =
    let e : (s + 1) / 2 ≡ s / 2 = omega arith in
    bit_half (s + 1) k ∙ ap (λ (x : ℕ). bit x k) e ∙ sym (bit_half s k)
bit_other s (suc j) zero ne h = omega (arith, last_more s j)
bit_other s (suc j) (suc k) ne h =
    bit_more s j k ∙ bit_other (s / 2) j k (λ e. ne (ap suc e)) (sym (bit_half s j) ∙ h) ∙ sym (bit_half s k)

pub bit_below : (n s j : ℕ) → j < n → s < 2 ^ n → bit s j ≡ 0 → s + 2 ^ j < 2 ^ n
bit_below zero s j lt below h = absurd (omega arith)
bit_below (suc n) s zero lt below h = omega (arith, pow-suc 2 n)
bit_below (suc n) s (suc j) lt below h =
    omega (arith, pow-suc 2 n, pow-suc 2 j, bit_below n (s / 2) j (omega arith) (omega (arith, pow-suc 2 n)) (sym (bit_half s j) ∙ h))

pub ones_more : (s j : ℕ) → bit s j ≡ 0 → ones (s + 2 ^ j) ≡ ones s + 1
ones_more s zero h =
    let e : (s + 1) / 2 ≡ s / 2 = omega arith in
    omega (arith, ones_step (s + 1), ones_step s, ap ones e)
ones_more s (suc j) h =
    omega (arith, ones_step (s + 2 ^ suc j), ones_step s, ap ones (half_more s j), last_more s j, ones_more (s / 2) j (sym (bit_half s j) ∙ h))

-- numbers with the same bits
pub bits_same : (n s t : ℕ) → s < 2 ^ n → t < 2 ^ n → ((j : ℕ) → j < n → bit s j ≡ bit t j) → s ≡ t
bits_same zero s t ls lt h = omega arith
bits_same (suc n) s t ls lt h =
    omega (arith, h 0 (omega arith), bits_same n (s / 2) (t / 2) (omega (arith, pow-suc 2 n)) (omega (arith, pow-suc 2 n)) (λ j l. sym (bit_half s j) ∙ h (suc j) (omega arith) ∙ bit_half t j))

-- all bits of the greatest number
pub bit_full : (n j : ℕ) → j < n → bit (2 ^ n - 1) j ≡ 1
bit_full zero j lt = absurd (omega arith)
bit_full (suc n) zero lt = omega (arith, pow-suc 2 n, pow_pos n)
bit_full (suc n) (suc j) lt =
    let e : (2 ^ suc n - 1) / 2 ≡ 2 ^ n - 1 = omega (arith, pow-suc 2 n, pow_pos n) in
    bit_half (2 ^ suc n - 1) j ∙ ap (λ (x : ℕ). bit x j) e ∙ bit_full n j (omega arith)

pub bit_none : (j : ℕ) → bit 0 j ≡ 0
bit_none j = ap (λ (x : ℕ). x % 2) (zero-div (2 ^ j))

pub bit_cases : (s j : ℕ) → (bit s j ≡ 0) ⊎ (bit s j ≡ 1)
bit_cases s j = ⊎_elim (λ h. inl (omega arith)) (λ h. inr (omega arith)) (cases_lt (bit s j) 1)

-- a bit taken out
pub bit_within : (s j : ℕ) → bit s j ≡ 1 → 2 ^ j ≤ s
bit_within s zero h = omega arith
bit_within s (suc j) h = omega (arith, pow-suc 2 j, bit_within (s / 2) j (sym (bit_half s j) ∙ h))

pub bit_out : (s j : ℕ) → bit s j ≡ 1 → bit (s - 2 ^ j) j ≡ 0
bit_out s zero h = omega arith
bit_out s (suc j) h =
    let within = bit_within (s / 2) j (sym (bit_half s j) ∙ h) in
    let e : (s - 2 ^ suc j) / 2 ≡ s / 2 - 2 ^ j = omega (arith, pow-suc 2 j) in
    bit_half (s - 2 ^ suc j) j ∙ ap (λ (x : ℕ). bit x j) e ∙ bit_out (s / 2) j (sym (bit_half s j) ∙ h)

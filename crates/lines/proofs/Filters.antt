-- What a filter keeps, and of which list. Assumes nothing.
use Rattle.std.proofs.Common.{◌≡◌, ℕ, zero, suc, ◌<◌, Bool, true, false, cond, ◌&&◌, List, [], ◌∷◌, ◌++◌, map, length, get_or, filter, refl, ap, ◌∙◌, arith}
use Rattle.std.specs.List.{flat_map, ContainsAt as Has, AllByRecursion}
use Rattle.std.proofs.lemmas.Bool.{false≢true}
use Rattle.std.proofs.lemmas.List.Elements.{filter-append}
use Rattle.std.proofs.ByRecursion.{All-append, All-weaker, has_append_right}

-- what stands at j
pub pick : {X : Type 0} (xs : List X) (j : ℕ) → j < length xs → (x : X) × ((d : X) → get_or xs j d ≡ x)
pick [] j lt = absurd (omega arith)
pick (x ∷ xs) zero lt = (x, λ d. refl)
pick (x ∷ xs) (suc j) lt = pick xs j (omega arith)

pub all_of : {X : Type 0} (P : X → Type 0) → ((x : X) → P x) → (xs : List X) → AllByRecursion P xs
all_of P h [] = tt
all_of P h (x ∷ xs) = (h x, all_of P h xs)

pub all_joined : {X Y : Type 0} (P : Y → Type 0) (f : X → List Y) (xs : List X) → AllByRecursion (λ x. AllByRecursion P (f x)) xs → AllByRecursion P (flat_map f xs)
all_joined P f [] h = tt
all_joined P f (x ∷ xs) h = All-append P (f x) (flat_map f xs) h.0 (all_joined P f xs h.1)

module _ {X : Type 0} (p : X → Bool) where
  first : (b : Bool) (x : X) (xs : List X) → b ≡ true → Has (cond b (x ∷ xs) xs) x
  first true x xs e = (0, omega arith, λ d. refl)
  first false x xs e = absurd (false≢true e)

  later : (b : Bool) (x y : X) (xs : List X) → Has xs y → Has (cond b (x ∷ xs) xs) y
  later true x y xs h = has_append_right (x ∷ []) xs y h
  later false x y xs h = h

  -- what passes is kept
  pub all_has_kept : (xs : List X) → AllByRecursion (λ x. p x ≡ true → Has (filter p xs) x) xs
  all_has_kept [] = tt
  all_has_kept (x ∷ xs) = (
    first (p x) x (filter p xs),
    All-weaker _ _ (λ y h e. later (p x) x y (filter p xs) (h e)) xs (all_has_kept xs),
  )

  both : (b : Bool) (q : X → Bool) (x : X) (xs : List X) → cond (b && q x) (x ∷ filter q xs) (filter q xs) ≡ filter q (cond b (x ∷ xs) xs)
  both true q x xs = refl
  both false q x xs = refl

  -- two tests at once are one after the other
  pub kept_both : (q : X → Bool) (xs : List X) → filter (λ x. p x && q x) xs ≡ filter q (filter p xs)
  kept_both q [] = refl
  kept_both q (x ∷ xs) = ap (λ l. cond (p x && q x) (x ∷ l) l) (kept_both q xs) ∙ both (p x) q x (filter p xs)

module _ {X Y : Type 0} (p : Y → Bool) where
  mapped : (b : Bool) (f : X → Y) (x : X) (xs : List X) → cond b (f x ∷ map f xs) (map f xs) ≡ map f (cond b (x ∷ xs) xs)
  mapped true f x xs = refl
  mapped false f x xs = refl

  pub kept_map : (f : X → Y) (xs : List X) → filter p (map f xs) ≡ map f (filter (λ x. p (f x)) xs)
  kept_map f [] = refl
  kept_map f (x ∷ xs) = ap (λ l. cond (p (f x)) (f x ∷ l) l) (kept_map f xs) ∙ mapped (p (f x)) f x (filter (λ y. p (f y)) xs)

  spread : (b : Bool) (f : X → List Y) (x : X) (xs : List X) → cond b (f x) [] ++ flat_map f xs ≡ flat_map f (cond b (x ∷ xs) xs)
  spread true f x xs = refl
  spread false f x xs = refl

  -- where all or none of what comes from an x passes
  pub kept_joined : (q : X → Bool) (f : X → List Y) → ((x : X) → filter p (f x) ≡ cond (q x) (f x) []) → (xs : List X) → filter p (flat_map f xs) ≡ flat_map f (filter q xs)
  kept_joined q f h [] = refl
  kept_joined q f h (x ∷ xs) = filter-append p (f x) (flat_map f xs) ∙ (λ i. h x i ++ kept_joined q f h xs i) ∙ spread (q x) f x (filter q xs)

same : {X : Type 0} (b : Bool) (x : X) (xs : List X) → cond b (x ∷ cond b xs []) (cond b xs []) ≡ cond b (x ∷ xs) []
same true x xs = refl
same false x xs = refl

nothing : {X : Type 0} (b : Bool) → ◌≡◌ {A = List X} [] (cond b [] [])
nothing true = refl
nothing false = refl

-- a test that is the same of all keeps all or none
pub kept_alike : {X Y : Type 0} (b : Bool) (f : X → Y) (p : Y → Bool) → ((x : X) → p (f x) ≡ b) → (xs : List X) → filter p (map f xs) ≡ cond b (map f xs) []
kept_alike b f p h [] = nothing b
kept_alike b f p h (x ∷ xs) = (λ i. cond (h x i) (f x ∷ kept_alike b f p h xs i) (kept_alike b f p h xs i)) ∙ same b (f x) (map f xs)

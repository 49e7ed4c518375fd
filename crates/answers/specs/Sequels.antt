-- What a call may answer, and what two calls one after the other may. Assumes nothing.
use Rattle.std.specs.Prelude.{◌≡◌, ◌<◌, ◌⊎◌, Ok, Err, Result}
use Rattle.answers.specs.declared.refusal.Refusal.{Refusal}

-- there is one answer at most
abbrev pub One : {A F : Type 0} → (Result A F → Type 0) → Type 0
One {A} {F} M = (r q : Result A F) → M r → M q → r ≡ q

-- this is an answer, and there is no other
abbrev pub Only : {A F : Type 0} → (Result A F → Type 0) → Result A F → Type 0
Only {A} {F} M r = M r × ((q : Result A F) → M q → q ≡ r)

-- first this call; where it grants, the next; where it refuses, its fault passes upward in its wrapping and nothing follows
abbrev pub Then : {A B E F : Type 0} → (Result A E → Type 0) → (E → F) → (A → Result B F → Type 0) → Result B F → Type 0
Then {A} first wrap next (Ok b) = (a : A) × (first (Ok a) × next a (Ok b))
Then {A} {E = E} first wrap next (Err f) = ((e : E) × (first (Err e) × (f ≡ wrap e))) ⊎ ((a : A) × (first (Ok a) × next a (Err f)))

-- the answer is this value
abbrev pub Answers : {A F : Type 0} → A → Result A F → Type 0
Answers a r = r ≡ Ok a

-- a call gave the one answer that M means, what it granted seen as its model;
-- of a fault without a number, which is want of memory, nothing is said
abbrev pub Exactly : {A B F : Type 0} → (A → B) → (F → Refusal) → (Result B F → Type 0) → Result A F → Type 0
Exactly model says M (Ok a) = Only M (Ok (model a))
Exactly model says M (Err f) = 0 < (says f).number → Only M (Err f)

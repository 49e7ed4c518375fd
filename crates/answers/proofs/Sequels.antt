-- One call after another has one answer where each of them has. Assumes nothing.
use Rattle.std.proofs.Common.{◌≡◌, ℕ, Ok, Err, Result, sym, ap, ◌∙◌, subst, inl, inr, arith}
use Rattle.answers.specs.Sequels.{One, Only, Then, Answers}

module _ {A B E F : Type 0} (first : Result A E → Type 0) (wrap : E → F) (next : A → Result B F → Type 0) (one : One first) (each : (a : A) → One (next a)) where
  same_ok : (a b : A) → first (Ok a) → first (Ok b) → a ≡ b
  same_ok a b h g = let e = one (Ok a) (Ok b) h g in cc

  not_both : (a : A) (e : E) → first (Ok a) → first (Err e) → ⊥
  not_both a e h g = let p = one (Ok a) (Err e) h g in let z : ◌≡◌ {A = ℕ} 0 1 = cc in omega arith

  follow : (a b : A) (r q : Result B F) → first (Ok a) → first (Ok b) → next a r → next b q → r ≡ q
  follow a b r q h g m n = each a r q m (subst (λ x. next x q) (same_ok b a g h) n)

  pub one_then : One (Then first wrap next)
  one_then (Ok x) (Ok y) h g = follow h.0 g.0 (Ok x) (Ok y) h.1.0 g.1.0 h.1.1 g.1.1
  one_then (Ok x) (Err f) h (inl g) = absurd (not_both h.0 g.0 h.1.0 g.1.0)
  one_then (Ok x) (Err f) h (inr g) = follow h.0 g.0 (Ok x) (Err f) h.1.0 g.1.0 h.1.1 g.1.1
  one_then (Err f) (Ok y) (inl h) g = absurd (not_both g.0 h.0 g.1.0 h.1.0)
  one_then (Err f) (Ok y) (inr h) g = follow h.0 g.0 (Err f) (Ok y) h.1.0 g.1.0 h.1.1 g.1.1
  one_then (Err f) (Err k) (inl h) (inl g) =
      let p = one (Err h.0) (Err g.0) h.1.0 g.1.0 in
      let same : h.0 ≡ g.0 = cc in
      ap Err (h.1.1 ∙ ap wrap same ∙ sym g.1.1)
  one_then (Err f) (Err k) (inl h) (inr g) = absurd (not_both g.0 h.0 g.1.0 h.1.0)
  one_then (Err f) (Err k) (inr h) (inl g) = absurd (not_both h.0 g.0 h.1.0 g.1.0)
  one_then (Err f) (Err k) (inr h) (inr g) = follow h.0 g.0 (Err f) (Err k) h.1.0 g.1.0 h.1.1 g.1.1

pub one_answers : {A F : Type 0} (a : A) → One (Answers {F = F} a)
one_answers a r q h g = h ∙ sym g

pub only_one : {A F : Type 0} (M : Result A F → Type 0) → One M → (r : Result A F) → M r → Only M r
only_one M one r h = (h, λ q g. one q r g h)

-- The script that moves rails one by one, with one rail more.
use Rattle.std.proofs.Common.{◌≡◌, ℕ, ◌+◌, ◌<◌, List, [], ◌∷◌, ◌++◌, length, get_or, take, refl, ap, ◌∙◌}
use Rattle.std.proofs.lemmas.List.{take_more}
use Rattle.histories.specs.declared.step.Step.TheVariants.{Start, Wait}
use Rattle.openings.specs.Orders.{singly}

singly_push : (last : ℕ → ℕ) (rails : List ℕ) (r : ℕ) → singly last (rails ++ r ∷ []) ≡ singly last rails ++ (Start r (last r) ∷ Wait r ∷ [])
singly_push last [] r = refl
singly_push last (q ∷ rails) r = ap (λ l. Start q (last q) ∷ Wait q ∷ l) (singly_push last rails r)

pub singly_more : (last : ℕ → ℕ) (rails : List ℕ) (i : ℕ) → i < length rails → singly last (take (i + 1) rails) ≡ singly last (take i rails) ++ (Start (get_or rails i 0) (last (get_or rails i 0)) ∷ Wait (get_or rails i 0) ∷ [])
singly_more last rails i lt = ap (singly last) (take_more rails i 0 lt) ∙ singly_push last (take i rails) (get_or rails i 0)

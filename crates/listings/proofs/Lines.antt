-- Lines written one after the other. Assumes nothing.
use Rattle.std.proofs.Common.{◌≡◌, ℕ, ◌+◌, List, [], ◌∷◌, ◌++◌, sym, ap, ◌∙◌, append_assoc, arith}
use Rattle.std.specs.List.{range_with_len, flat_map}
use Rattle.std.proofs.lemmas.List.FromFn.{map-range_with_len_more}
use Rattle.std.proofs.lemmas.List.{map-id, flat_map_more}

counting_more : (k : ℕ) → range_with_len 0 (k + 1) ≡ range_with_len 0 k ++ k ∷ []
counting_more k = sym (map-id (range_with_len 0 (k + 1))) ∙ map-range_with_len_more (λ n. n) 0 k k (omega arith) ∙ ap (λ l. l ++ k ∷ []) (map-id (range_with_len 0 k))

-- a loop that writes line k at turn k
pub lines_more : (f : ℕ → List ℕ) (base : List ℕ) (k : ℕ) {out more : List ℕ} → out ≡ base ++ flat_map f (range_with_len 0 k) → more ≡ out ++ f k → more ≡ base ++ flat_map f (range_with_len 0 (k + 1))
lines_more f base k e is = is ∙ ap (λ l. l ++ f k) e ∙ flat_map_more f base (range_with_len 0 k) k ∙ ap (λ l. base ++ flat_map f l) (sym (counting_more k))

-- two texts added one after the other
pub both : (base a b : List ℕ) {mid out : List ℕ} → mid ≡ base ++ a → out ≡ mid ++ b → out ≡ base ++ (a ++ b)
both base a b first second = second ∙ ap (λ l. l ++ b) first ∙ append_assoc base a b

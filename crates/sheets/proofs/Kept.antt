-- A loop that maps what passes a test onto the end of a list. Assumes nothing.
use Rattle.std.proofs.Common.{◌≡◌, ℕ, ◌+◌, ◌<◌, Bool, true, false, cond, List, [], ◌∷◌, ◌++◌, map, length, get_or, take, filter, sym, ap, ◌∙◌, append_assoc, append-nil}
use Rattle.std.proofs.lemmas.List.Elements.{filter_more}
use Rattle.std.proofs.lemmas.List.{map_push}

module _ {X Y : Type 0} (f : X → Y) (p : X → Bool) (base : List Y) (xs : List X) (i : ℕ) (d : X) (lt : i < length xs) where
  more : filter p (take (i + 1) xs) ≡ filter p (take i xs) ++ cond (p (get_or xs i d)) (get_or xs i d ∷ []) []
  more = filter_more p xs i d lt

  -- the element at i passes and is added
  pub keeps_yes : {out more_out : List Y} → p (get_or xs i d) ≡ true → out ≡ base ++ map f (filter p (take i xs)) → more_out ≡ out ++ f (get_or xs i d) ∷ [] → more_out ≡ base ++ map f (filter p (take (i + 1) xs))
  keeps_yes t e is =
      is
      ∙ ap (λ l. l ++ f (get_or xs i d) ∷ []) e
      ∙ append_assoc base (map f (filter p (take i xs))) (f (get_or xs i d) ∷ [])
      ∙ sym (ap (λ l. base ++ l) (map_push f (filter p (take i xs)) (get_or xs i d)))
      ∙ sym (ap (λ l. base ++ map f l) (more ∙ ap (λ b. filter p (take i xs) ++ cond b (get_or xs i d ∷ []) []) t))

  -- it does not pass
  pub keeps_no : {out : List Y} → p (get_or xs i d) ≡ false → out ≡ base ++ map f (filter p (take i xs)) → out ≡ base ++ map f (filter p (take (i + 1) xs))
  keeps_no t e = e ∙ sym (ap (λ l. base ++ map f l) (more ∙ ap (λ b. filter p (take i xs) ++ cond b (get_or xs i d ∷ []) []) t ∙ append-nil _))

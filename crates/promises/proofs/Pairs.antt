-- Two lists place by place, one place more. Assumes nothing.
use Rattle.std.proofs.Common.{List, [], ◌∷◌, ◌++◌}
use Rattle.promises.specs.Notes.{Alongside}

pub alongside_push : {X Y : Type 0} (R : X → Y → Type 0) (xs : List X) (ys : List Y) (x : X) (y : Y) → Alongside R xs ys → R x y → Alongside R (xs ++ (x ∷ [])) (ys ++ (y ∷ []))
alongside_push R [] [] x y h r = (r, tt)
alongside_push R [] (z ∷ ys) x y h r = elim h [ ]
alongside_push R (z ∷ xs) [] x y h r = elim h [ ]
alongside_push R (z ∷ xs) (w ∷ ys) x y h r = (h.0, alongside_push R xs ys x y h.1 r)

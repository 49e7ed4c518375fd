-- Bytes are read in one way only. Assumes nothing.
use Rattle.std.proofs.Common.{◌≡◌, ℕ, ◌^◌, ◌<◌, ◌⊎◌, List, [], ◌∷◌, ◌++◌, length, decimal, sym, refl, ap, ◌∙◌, subst, inl, inr, ⊎_elim, append_assoc, append-nil, arith, length-append}
use Rattle.std.specs.List.{flat_map, AllByRecursion}
use Rattle.std.specs.Str.Parse.{AllDigits}
use Rattle.std.proofs.lemmas.Fmt.{decimal_is_IsNumeral}
use Rattle.std.proofs.lemmas.Str.Parse.{digit_from_value}
use Rattle.text.specs.Written.{commas}
use Rattle.answers.specs.Checks.{Pass}
use Rattle.sheet.specs.Sheets.{Sheet, Inner, Plain, line, written, Fits, GoodAfter, Starts, checks, Lawful}

-- a text before the first mark is told by the whole
pub cut_same : (P : ℕ → Type 0) (f g r q : List ℕ) (x y : ℕ) → AllByRecursion P f → AllByRecursion P g → (P x → ⊥) → (P y → ⊥) → f ++ x ∷ r ≡ g ++ y ∷ q → (f ≡ g) × (x ≡ y) × (r ≡ q)
cut_same P [] [] r q x y a b nx ny e = (refl, cc, cc)
cut_same P [] (c ∷ g) r q x y a b nx ny e = let same : c ≡ x = cc in absurd (nx (subst P same b.0))
cut_same P (c ∷ f) [] r q x y a b nx ny e = let same : c ≡ y = cc in absurd (ny (subst P same a.0))
cut_same P (c ∷ f) (d ∷ g) r q x y a b nx ny e =
    let tail : f ++ x ∷ r ≡ g ++ y ∷ q = cc in
    let head : c ≡ d = cc in
    let more = cut_same P f g r q x y a.1 b.1 nx ny tail in
    ((λ i. head i ∷ more.0 i), more.1, more.2)

comma_not : Inner 44 → ⊥
comma_not h = h.0 refl

end_not : Inner 10 → ⊥
end_not h = h.1 refl

last_field : (f r : List ℕ) → line (f ∷ []) ++ r ≡ f ++ 10 ∷ r
last_field f r = append_assoc f (10 ∷ []) r

next_field : (f g : List ℕ) (fs : List (List ℕ)) (r : List ℕ) → line (f ∷ g ∷ fs) ++ r ≡ f ++ 44 ∷ (line (g ∷ fs) ++ r)
next_field f g fs r = simp append_assoc

pub line_same : (fs gs : List (List ℕ)) (r q : List ℕ) → 0 < length fs → 0 < length gs → AllByRecursion Plain fs → AllByRecursion Plain gs → line fs ++ r ≡ line gs ++ q → (fs ≡ gs) × (r ≡ q)
line_same [] gs r q m n a b e = absurd (omega arith)
line_same (f ∷ fs) [] r q m n a b e = absurd (omega arith)
line_same (f ∷ []) (g ∷ []) r q m n a b e =
    let t = cut_same Inner f g r q 10 10 a.0 b.0 end_not end_not (sym (last_field f r) ∙ e ∙ last_field g q) in
    (ap (λ h. h ∷ []) t.0, t.2)
line_same (f ∷ []) (g ∷ h ∷ gs) r q m n a b e =
    let t = cut_same Inner f g r (line (h ∷ gs) ++ q) 10 44 a.0 b.0 end_not comma_not (sym (last_field f r) ∙ e ∙ next_field g h gs q) in
    absurd (omega (arith, t.1))
line_same (f ∷ h ∷ fs) (g ∷ []) r q m n a b e =
    let t = cut_same Inner f g (line (h ∷ fs) ++ r) q 44 10 a.0 b.0 comma_not end_not (sym (next_field f h fs r) ∙ e ∙ last_field g q) in
    absurd (omega (arith, t.1))
line_same (f ∷ h ∷ fs) (g ∷ k ∷ gs) r q m n a b e =
    let t = cut_same Inner f g (line (h ∷ fs) ++ r) (line (k ∷ gs) ++ q) 44 44 a.0 b.0 comma_not comma_not (sym (next_field f h fs r) ∙ e ∙ next_field g k gs q) in
    let u = line_same (h ∷ fs) (k ∷ gs) r q (omega arith) (omega arith) a.1 b.1 t.2 in
    ((λ i. t.0 i ∷ u.0 i), u.1)

module _ {Row : Type 0} {s : Sheet Row} (law : Lawful s) where
  pub row_some : (r : Row) → s.Ranged r → 0 < length (s.fields r)
  row_some r h = omega (arith, law.fill r h, law.some)

  -- one row begins the bytes
  pub start_same : {r t : Row} {a b : List ℕ} → s.Ranged r → s.Ranged t → written s r ++ a ≡ written s t ++ b → (r ≡ t) × (a ≡ b)
  start_same {r = r} {t = t} {a = a} {b = b} h k e =
      let u = line_same (s.fields r) (s.fields t) a b (row_some r h) (row_some t k) (law.plain r h) (law.plain t k) e in
      (law.same r t h k u.0, u.1)

  -- a good row begins the rest
  pub record Goes (rows : List Row) (rest : List ℕ) : Type 0 where
    pub row : Row
    pub starts : Starts s rest row
    pub fits : Fits s rows row

  pub passes : {rows : List Row} {rest : List ℕ} → Goes rows rest → Pass (checks s rows rest)
  passes h =
      let r = h.row in
      let st = h.starts in
      ((s.fields r, record { rest = st.rest; front = st.front; plain = law.plain r st.ranged; width = law.fill r st.ranged }), ((r, st), ((r, st, h.fits.next), ((r, st, h.fits.next, h.fits.level), tt))))

  pub grows : {rows : List Row} {rest : List ℕ} → Goes rows rest → 0 < length rest
  grows h =
      let r = h.row in
      omega (arith, ap length h.starts.front, length-append (written s r) h.starts.rest, length-append (commas (s.fields r)) (10 ∷ []))

  -- two readings of good rows agree, or one of them stopped before a good row
  pub compare_rows : (b rs ts : List Row) (x y : List ℕ) → GoodAfter s b rs → GoodAfter s b ts → flat_map (written s) rs ++ x ≡ flat_map (written s) ts ++ y → ((rs ≡ ts) × (x ≡ y)) ⊎ (Goes (b ++ rs) x ⊎ Goes (b ++ ts) y)
  compare_rows b [] [] x y g h e = inl (refl, e)
  compare_rows b [] (t ∷ ts) x y g h e =
      inr (inl (record { row = t; starts = record { rest = flat_map (written s) ts ++ y; front = e ∙ append_assoc (written s t) (flat_map (written s) ts) y; ranged = h.0.ranged }; fits = subst (λ l. Fits s l t) (sym (append-nil b)) h.0 }))
  compare_rows b (r ∷ rs) [] x y g h e =
      inr (inr (record { row = r; starts = record { rest = flat_map (written s) rs ++ x; front = sym e ∙ append_assoc (written s r) (flat_map (written s) rs) x; ranged = g.0.ranged }; fits = subst (λ l. Fits s l r) (sym (append-nil b)) g.0 }))
  compare_rows b (r ∷ rs) (t ∷ ts) x y g h e =
      let u = start_same g.0.ranged h.0.ranged (sym (append_assoc (written s r) (flat_map (written s) rs) x) ∙ e ∙ append_assoc (written s t) (flat_map (written s) ts) y) in
      let next = compare_rows (b ++ r ∷ []) rs ts x y g.1 (subst (λ v. GoodAfter s (b ++ v ∷ []) ts) (sym u.0) h.1) u.1 in
      ⊎_elim
      (λ same. inl ((λ i. u.0 i ∷ same.0 i), same.1))
      (λ goes. inr (⊎_elim (λ one. inl (subst (λ l. Goes l x) (append_assoc b (r ∷ []) rs) one)) (λ two. inr (subst (λ l. Goes l y) (append_assoc b (r ∷ []) ts ∙ ap (λ v. b ++ v ∷ ts) u.0) two)) goes))
      next

plain_digits : (ds : List ℕ) → AllDigits 10 ds → Plain ds
plain_digits [] h = tt
plain_digits (d ∷ ds) h = let b = digit_from_value d h.0 in ((λ e. omega arith, λ e. omega arith), plain_digits ds h.1)

-- a number is a plain field
pub plain_decimal : (n : ℕ) → n < 2 ^ 64 → Plain (decimal n)
plain_decimal n small = plain_digits (decimal n) (decimal_is_IsNumeral n small).0.1

-- One line, as the reader takes it apart. Assumes nothing.
use Rattle.std.proofs.Common.{◌≡◌, ℕ, zero, suc, ◌+◌, ◌<◌, ◌≤◌, Bool, true, false, not, List, [], ◌∷◌, ◌++◌, length, get_or, take, drop, Decides, sym, refl, ap, ◌∙◌, subst, inr, ⊎_elim, append_assoc, append-nil, arith, length-append}
use Rattle.std.specs.List.{flat_map, AllByRecursion}
use Rattle.std.proofs.lemmas.List.{take_all, flat_map_more}
use Rattle.std.proofs.str.Laws.{order}
use Rattle.text.specs.Written.{Lacks, commas, Fields}
use Rattle.text.proofs.Cuts.{around}
use Rattle.sheet.specs.Sheets.{Told}
use Rattle.sheet.specs.Sheets.{Sheet, Plain, line, line_fault, written, render, Fits, GoodAfter, Good, At, Misnamed, Unended, Refused, Shaped, Starts, BadLine, LineFault, ReadsRow, Lawful}
use Rattle.faults.specs.declared.sheet.SheetFault.{SheetFault}
use Rattle.sheet.proofs.Laws.{cut_same, line_same, start_same, row_some}

-- a test that came out false, and one that came out true
pub refuted : {P : Type 0} {b : Bool} → b ≡ false → Decides b P → P → ⊥
refuted {b = b} e d p = let t = d.1 p in let z : ◌≡◌ {A = ℕ} 0 1 = cc in omega arith

pub held : {P : Type 0} {b : Bool} → b ≡ true → Decides b P → P
held e d = d.0 e

-- the same of `!=`
pub differs : {P : Type 0} (x : Bool) {r : Bool} → r ≡ not x → r ≡ true → Decides x P → P → ⊥
differs true n e d p = let z : ◌≡◌ {A = ℕ} 0 1 = cc in omega arith
differs false n e d p = refuted refl d p

pub agrees : {P : Type 0} (x : Bool) {r : Bool} → r ≡ not x → r ≡ false → Decides x P → P
agrees true n e d = d.0 refl
agrees false n e d = let z : ◌≡◌ {A = ℕ} 0 1 = cc in absurd (omega arith)

-- a mark is not among bytes that lack it
pub lacking : (c : ℕ) (xs ys : List ℕ) → Lacks c (xs ++ c ∷ ys) → ⊥
lacking c [] ys a = a.0 refl
lacking c (x ∷ xs) ys a = lacking c xs ys a.1

both : (f : List ℕ) → Lacks 44 f → Lacks 10 f → Plain f
both [] a b = tt
both (x ∷ f) a b = ((a.0, b.0), both f a.1 b.1)

front_lacks : (xs ys : List ℕ) → Lacks 10 (xs ++ ys) → Lacks 10 xs
front_lacks [] ys a = tt
front_lacks (x ∷ xs) ys a = (a.0, front_lacks xs ys a.1)

back_lacks : (xs ys : List ℕ) → Lacks 10 (xs ++ ys) → Lacks 10 ys
back_lacks [] ys a = a
back_lacks (x ∷ xs) ys a = back_lacks xs ys a.1

all_plain : (fs : List (List ℕ)) → AllByRecursion (Lacks 44) fs → Lacks 10 (commas fs) → AllByRecursion Plain fs
all_plain [] a b = tt
all_plain (f ∷ []) a b = (both f a.0 b, tt)
all_plain (f ∷ g ∷ fs) a b = (both f a.0 (front_lacks f _ b), all_plain (g ∷ fs) a.1 (back_lacks f _ b).1)

-- the line that begins rest, and what is after it
pub record Line (rest : List ℕ) (fs : List (List ℕ)) (after : List ℕ) : Type 0 where
  pub front : rest ≡ line fs ++ after
  pub plain : AllByRecursion Plain fs
  pub some : 0 < length fs

pub line_cut : {rest front : List ℕ} {fs : List (List ℕ)} (i : ℕ) → i < length rest → get_or rest i 0 ≡ 10 → Lacks 10 (take i rest) → front ≡ take i rest → Fields fs front → Line rest fs (drop (i + 1) rest)
line_cut {rest = rest} {fs = fs} i l e a isFront h =
    let same = h.whole ∙ isFront in
    record {
      front = sym (append_assoc (commas fs) (10 ∷ []) (drop (i + 1) rest) ∙ ap (λ t. t ++ 10 ∷ drop (i + 1) rest) same ∙ around rest i 10 l e);
      plain = all_plain fs h.apart (subst (Lacks 10) (sym same) a);
      some = h.some;
    }

module _ {Row : Type 0} {s : Sheet Row} (law : Lawful s) (rows : List Row) {h n : ℕ} (is_here : h ≡ s.number) (is_line : n ≡ length rows + 1) where
  named : (k : ℕ) → line_fault k h n ≡ line_fault k s.number (length rows + 1)
  named k i = line_fault k (is_here i) (is_line i)

  module _ {rest after : List ℕ} {fs : List (List ℕ)} (cut : Line rest fs after) (some : 0 < length rest) where
    pub miscounted : (length fs ≡ s.width → ⊥) → LineFault s rows rest (length rows + 1) (line_fault 0 h n)
    miscounted not = (
      0,
      named 0,
      (
        some,
        λ t.
            let w = t.1 in
            let u = line_same fs t.0 after w.rest cut.some (omega (arith, w.width, law.some)) cut.plain w.plain (sym cut.front ∙ w.front) in
            not (ap length u.0 ∙ w.width),
      ),
    )

    shaped : length fs ≡ s.width → (gs : List (List ℕ)) × Shaped s rest gs
    shaped e = (fs, record { rest = after; front = cut.front; plain = cut.plain; width = e })

    pub unread : length fs ≡ s.width → ((r : Row) → s.fields r ≡ fs → s.Ranged r → ⊥) → LineFault s rows rest (length rows + 1) (line_fault 1 h n)
    unread e not = (
      1,
      named 1,
      (
        some,
        (
          shaped e,
          λ t.
              let r = t.0 in
              let w = t.1 in
              not r (line_same (s.fields r) fs w.rest after (row_some law r w.ranged) cut.some (law.plain r w.ranged) cut.plain (sym w.front ∙ cut.front)).0 w.ranged,
        ),
      ),
    )

    module _ {r : Row} (wide : length fs ≡ s.width) (is : s.fields r ≡ fs) (ranged : s.Ranged r) where
      begins : rest ≡ written s r ++ after
      begins = cut.front ∙ ap (λ gs. line gs ++ after) (sym is)

      starts : Starts s rest r
      starts = record { rest = after; front = begins; ranged = ranged }

      the_row : (t : Row) → Starts s rest t → t ≡ r
      the_row t w = (start_same law w.ranged ranged (sym w.front ∙ begins)).0

      pub misplaced : (s.Next rows r → ⊥) → LineFault s rows rest (length rows + 1) (line_fault 2 h n)
      misplaced not = (2, named 2, (some, (shaped wide, ((r, starts), λ t. not (subst (s.Next rows) (the_row t.0 t.1) t.2)))))

      pub crossed : s.Next rows r → (s.Level r → ⊥) → LineFault s rows rest (length rows + 1) (line_fault 3 h n)
      crossed next not = (3, named 3, (some, (shaped wide, ((r, starts), ((r, starts, next), λ t. not (subst s.Level (the_row t.0 t.1) t.3))))))

-- the bytes begin with the names and these good rows, and rest is left
pub record Sofar {Row : Type 0} (s : Sheet Row) (bs : List ℕ) (rows : List Row) (rest : List ℕ) : Type 0 where
  pub short : length bs ≤ 65535
  pub whole : bs ≡ render s rows ++ rest
  pub good : Good s rows

-- one row more at the end
pub render_more : {Row : Type 0} (s : Sheet Row) (rows : List Row) (r : Row) → render s rows ++ written s r ≡ render s (rows ++ r ∷ [])
render_more s rows r = append_assoc s.names (10 ∷ flat_map (written s) rows) (written s r) ∙ ap (λ t. s.names ++ 10 ∷ t) (flat_map_more (written s) [] rows r)

good_more : {Row : Type 0} (s : Sheet Row) (b rs : List Row) (r : Row) → GoodAfter s b rs → Fits s (b ++ rs) r → GoodAfter s b (rs ++ r ∷ [])
good_more s b [] r h f = (subst (λ l. Fits s l r) (append-nil b) f, tt)
good_more s b (t ∷ rs) r h f = (h.0, good_more s (b ++ t ∷ []) rs r h.1 (subst (λ l. Fits s l r) (sym (append_assoc b (t ∷ []) rs)) f))

few : {Row : Type 0} (s : Sheet Row) (rs : List Row) → length rs ≤ length (flat_map (written s) rs)
few s [] = omega arith
few s (r ∷ rs) = omega (arith, few s rs, length-append (written s r) (flat_map (written s) rs), length-append (commas (s.fields r)) (10 ∷ []))

module _ {Row : Type 0} {s : Sheet Row} {bs : List ℕ} where
  pub one_more : {rows more : List Row} {r : Row} {rest after : List ℕ} → Sofar s bs rows rest → ReadsRow s rows rest r after → more ≡ rows ++ r ∷ [] → Sofar s bs more after
  one_more {rows = rows} {r = r} {after = after} h w e = subst (λ l. Sofar s bs l after) (sym e) (record {
    short = h.short;
    whole = h.whole ∙ ap (λ t. render s rows ++ t) w.front ∙ sym (append_assoc (render s rows) (written s r) after) ∙ ap (λ t. t ++ after) (render_more s rows r);
    good = good_more s [] rows r h.good w.fits;
  })

  pub counts : {rows : List Row} {rest : List ℕ} → Sofar s bs rows rest → length rows < 65536
  counts {rows = rows} {rest = rest} h = omega (arith, h.short, ap length h.whole, length-append (render s rows) rest, length-append s.names (10 ∷ flat_map (written s) rows), few s rows)

  here : {P : List Row → List ℕ → Type 0} {rows : List Row} {rest : List ℕ} → Sofar s bs rows rest → P rows rest → At s P bs (length rows + 1)
  here {rows = rows} {rest = rest} h p = record { short = h.short; rows = rows; rest = rest; whole = h.whole; good = h.good; count = refl; here = p }

  pub stopped : {rows : List Row} {rest : List ℕ} (f : SheetFault) → Sofar s bs rows rest → LineFault s rows rest (length rows + 1) f → Refused s bs f
  stopped {rows = rows} {rest = rest} f h t = subst (Refused s bs) (sym t.1) (by_check t.0 t.2)
    where
      by_check : (k : ℕ) → BadLine s k rows rest → Refused s bs (line_fault k s.number (length rows + 1))
      by_check zero b = (refl, inr (here h b))
      by_check (suc zero) b = (refl, here h b)
      by_check (suc (suc zero)) b = (refl, here h b)
      by_check (suc (suc (suc zero))) b = (refl, here h b)
      by_check (suc (suc (suc (suc k)))) b = absurd b.1.1.1.1.1

  pub passes_on : {rows : List Row} {rest : List ℕ} (f : SheetFault) → Sofar s bs rows rest → Told (LineFault s rows rest (length rows + 1)) f → Told (Refused s bs) f
  passes_on f h t numbered = stopped f h (t numbered)

  -- the names line
  pub begun : (i : ℕ) → length bs ≤ 65535 → i < length bs → get_or bs i 0 ≡ 10 → take i bs ≡ s.names → Sofar s bs [] (drop (i + 1) bs)
  begun i l k e same = record {
    short = l;
    whole = sym (append_assoc s.names (10 ∷ []) (drop (i + 1) bs) ∙ ap (λ t. t ++ 10 ∷ drop (i + 1) bs) (sym same) ∙ around bs i 10 k e);
    good = tt;
  }

  pub misnamed : (i : ℕ) → Lacks 10 s.names → length bs ≤ 65535 → (i < length bs → get_or bs i 0 ≡ 10) → Lacks 10 (take i bs) → (take i bs ≡ s.names → ⊥) → Misnamed s bs
  misnamed i lacks l found before not = record {
    short = l;
    other = λ e.
        ⊎_elim
        (λ k. lacking 10 (take i bs) (drop (i + 1) bs) (subst (Lacks 10) (sym e ∙ sym (around bs i 10 k (found k))) lacks))
        (λ k. not (take_all i bs k ∙ e))
        (order i (length bs));
    none = λ rest e.
        ⊎_elim
        (λ k. not (cut_same (λ b. b ≡ 10 → ⊥) (take i bs) s.names (drop (i + 1) bs) rest 10 10 before lacks (λ n. n refl) (λ n. n refl) (around bs i 10 k (found k) ∙ e)).0)
        (λ k. lacking 10 s.names rest (subst (Lacks 10) (take_all i bs k ∙ e) before))
        (order i (length bs));
  }

  pub unended_names : (i : ℕ) → length bs ≤ 65535 → length bs ≤ i → take i bs ≡ s.names → Unended s bs
  unended_names i l k e = record { short = l; names = sym (take_all i bs k) ∙ e }

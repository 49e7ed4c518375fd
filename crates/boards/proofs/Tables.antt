-- A table that a loop writes, row by row, from the first n rows of two others. Assumes nothing.
use Rattle.std.proofs.Common.{◌≡◌, ℕ, ◌+◌, ◌<◌, ◌≤◌, ◌≢◌, Option, Some, None, Iter, List, length, get_or, set, take, ap, ◌∙◌, arith, get_or-set_other, get_or-set_same, below_more, length-take}
use Rattle.std.specs.declared.iter.Enumerate.{Enumerate}
use Rattle.std.specs.declared.iter.Zip.{Zip}
use Rattle.std.specs.Iterator.{Yields}
use Rattle.std.specs.Iterator.Adapters.{enumerate_steps}
use Rattle.std.specs.Slice.Iter.{iter_rest}
use Rattle.std.specs.List.{zip, enumerate_from}
use Rattle.std.proofs.iter.Yields.{fronts}
use Rattle.std.proofs.lemmas.Iterator.{zips, YieldsList-from_slice, YieldsList-from_zip}
use Rattle.std.proofs.lemmas.Iterator.Consumers.{YieldsList-from_enumerate, YieldsList-turn, YieldsList-end}
use Rattle.std.proofs.lemmas.List.{get_or-take, get_or_default}
use Rattle.std.proofs.lemmas.List.FromFn.{length-enumerate_from, get_or-enumerate_from}
use Rattle.std.proofs.lemmas.Slice.Zip.{length-zip, get_or-zip}
use denote.Ref.{Bor}
use Rattle.platform.specs.Units.{value_of}
use Rattle.boards.specs.Making.{setting_of, Makable}

-- what holds of each row below i, and of the row written at i, holds of each row below i + 1
pub one_more : {A : Type 0} (P : ℕ → A → Type 0) (rows : List A) (i : ℕ) (x d : A) → i < length rows → ((k : ℕ) → k < i → P k (get_or rows k d)) → P i x → (k : ℕ) → k < i + 1 → P k (get_or (set rows i x) k d)
one_more P rows i x d lt below here =
    below_more _ _
    (λ k h. let ne : k ≢ i = omega arith in rw get_or-set_other (below k h))
    (rw get_or-set_same here)

-- the same, where the row's number and the count of turns are written otherwise
pub one_more_at : {A : Type 0} (P : ℕ → A → Type 0) (rows : List A) (i w n : ℕ) (x d : A) → w ≡ i → n ≡ i + 1 → i < length rows → ((k : ℕ) → k < i → P k (get_or rows k d)) → P i x → (k : ℕ) → k < n → P k (get_or (set rows w x) k d)
one_more_at P rows i w n x d ew en lt below here = rw (ew, en) (one_more P rows i x d lt below here)

-- what turn i of such a loop finds
pub record Found {A : Type 0} (ks : List A) (vs : List ℕ) (n i : ℕ) (found : ℕ × (A × ℕ)) : Type 0 where
  pub below : i < n
  pub index : found.0 ≡ i
  pub key : (d : A) → found.1.0 ≡ get_or ks i d
  pub value : (d : ℕ) → found.1.1 ≡ get_or vs i d

abbrev pub steps : {A : Type 0} → Enumerate (Zip (Iter A) (Iter ℕ)) → Option (ℕ × (Bor A × Bor ℕ)) → Enumerate (Zip (Iter A) (Iter ℕ)) → Type 0
steps = enumerate_steps (zips fronts fronts)

found_in : {A : Type 0} (ks : List A) (vs : List ℕ) (n i : ℕ) (found : ℕ × (A × ℕ)) → n ≤ length ks → n ≤ length vs → (i < length (enumerate_from 0 (zip (take n ks) vs))) × (found ≡ get_or (enumerate_from 0 (zip (take n ks) vs)) i found) → Found ks vs n i found
found_in ks vs n i found hk hv h =
    let rows = zip (take n ks) vs in
    let lr : i < length rows = omega (arith, h.0, length-enumerate_from 0 rows) in
    let lt : i < n = omega (arith, lr, length-zip (take n ks) vs, length-take n ks) in
    let lk : i < length (take n ks) = omega (arith, length-take n ks) in
    let lv : i < length vs = omega arith in
    let numbered = h.1 ∙ get_or-enumerate_from 0 rows i found lr in
    let pair = ap (λ p. p.1) numbered ∙ get_or-zip (take n ks) vs i found.1 lk lv in
    record {
      below = lt;
      index = ap (λ p. p.0) numbered ∙ omega arith;
      key = λ d. ap (λ p. p.0) pair ∙ get_or-take n ks i found.1.0 lt ∙ get_or_default ks i found.1.0 d (omega arith);
      value = λ d. ap (λ p. p.1) pair ∙ get_or_default vs i found.1.1 d lv;
    }

pub found_at : {A : Type 0} (ks : List A) (vs : List ℕ) (n : ℕ) (s t u : Enumerate (Zip (Iter A) (Iter ℕ))) (xs : List (ℕ × (Bor A × Bor ℕ))) (r : Option (ℕ × (Bor A × Bor ℕ))) (x : ℕ × (Bor A × Bor ℕ))
    → n ≤ length ks
    → n ≤ length vs
    → iter_rest s.iter.a ≡ take n ks
    → iter_rest s.iter.b ≡ vs
    → s.count ≡ 0
    → Yields steps s xs t
    → r ≡ Some x
    → steps t r u
    → Found ks vs n (length xs) (x.0, (x.1.0.now, x.1.1.now))
found_at ks vs n s t u xs r x hk hv ek ev ec y er st =
    found_in ks vs n (length xs) (x.0, (x.1.0.now, x.1.1.now)) hk hv (YieldsList-turn (YieldsList-from_enumerate (YieldsList-from_zip (YieldsList-from_slice (take n ks) ek) (YieldsList-from_slice vs ev)) ec) xs t y r u x er st)

-- and how many turns such a loop has
pub found_all : {A : Type 0} (ks : List A) (vs : List ℕ) (n : ℕ) (s t u : Enumerate (Zip (Iter A) (Iter ℕ))) (xs : List (ℕ × (Bor A × Bor ℕ))) (r : Option (ℕ × (Bor A × Bor ℕ)))
    → n ≤ length ks
    → n ≤ length vs
    → iter_rest s.iter.a ≡ take n ks
    → iter_rest s.iter.b ≡ vs
    → s.count ≡ 0
    → Yields steps s xs t
    → r ≡ None
    → steps t r u
    → length xs ≡ n
found_all ks vs n s t u xs r hk hv ek ev ec y er st =
    let rows = zip (take n ks) vs in
    let all = YieldsList-end (YieldsList-from_enumerate (YieldsList-from_zip (YieldsList-from_slice (take n ks) ek) (YieldsList-from_slice vs ev)) ec) xs t y r u er st in
    omega (arith, all.1, length-enumerate_from 0 rows, length-zip (take n ks) vs, length-take n ks)

-- rail k may rest with its setting at its first value, and does
abbrev pub Rested : {Setting Row : Type 0} → Setting → (Setting → Type 0) → ℕ → (Setting → ℕ → Row → Type 0) → List Setting → List ℕ → ℕ → Row → Type 0
Rested unset suits ceiling rests settings first k x =
    (suits (setting_of unset settings k) × (value_of first k ≤ ceiling)) × rests (setting_of unset settings k) (value_of first k) x

-- a setting that does not suit, or a first value above the ceiling, is enough for a refusal
pub unmakable : {Setting : Type 0} (unset : Setting) (suits : Setting → Type 0) (ceiling n : ℕ) (settings : List Setting) (first : List ℕ) (i : ℕ) (setting : Setting) (mv : ℕ) → i < n → setting ≡ setting_of unset settings i → mv ≡ value_of first i → (suits setting × (mv ≤ ceiling) → ⊥) → Makable unset suits ceiling n settings first → ⊥
unmakable unset suits ceiling n settings first i setting mv lt es ev unfit m = unfit (rw (es, ev) (m.ranged i lt, m.low i lt))

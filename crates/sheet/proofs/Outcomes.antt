-- No two outcomes of the same bytes differ. Assumes nothing.
use Rattle.std.proofs.Common.{◌≡◌, ℕ, ◌+◌, ◌<◌, ◌≤◌, List, [], ◌∷◌, ◌++◌, length, Ok, Err, Result, sym, refl, ap, ◌∙◌, subst, inl, inr, ⊎_elim, append_assoc, append-nil, arith, length-append, MatchResult}
use Rattle.std.specs.List.{flat_map}
use Rattle.std.proofs.lemmas.List.{append_cancel_left}
use Rattle.answers.specs.Sequels.{Only, Exactly}
use Rattle.answers.proofs.Orders.{one_first, none_bad}
use Rattle.answers.proofs.Sequels.{only_one}
use Rattle.faults.specs.Numbers.{sheet_refusal}
use Rattle.sheet.specs.Sheets.{Told}
use Rattle.sheet.specs.Sheets.{Sheet, line_fault, written, render, Good, checks, BadLine, TooFew, Granted, At, Misnamed, Unended, Refused, Outcome, OneOutcome, OneWriting, ReadsBack, Lawful}
use Rattle.faults.specs.declared.sheet.SheetFault.{SheetFault}
use Rattle.faults.specs.declared.sheet.SheetFault.TheVariants.{TooLong, Names, Shape, Field, Turn, Crossed, Short, Memory}
use Rattle.sheet.proofs.Laws.{Goes, passes, grows, compare_rows}

-- where reading good rows stopped: at the end with all rows or too few, or at a line that fails a check
data Kind : Type 0 where
  full : Kind
  few : Kind
  bad : ℕ → Kind

data Way (Row : Type 0) : Type 0 where
  long : Way Row
  misnamed : Way Row
  unended : Way Row
  stops : Kind → List Row → Way Row

answer : {Row : Type 0} → ℕ → Way Row → Result (List Row) SheetFault
answer h long = Err (TooLong h)
answer h misnamed = Err (Names h)
answer h unended = Err (Shape h 0)
answer h (stops full rows) = Ok rows
answer h (stops few rows) = Err (Short h (length rows + 1))
answer h (stops (bad k) rows) = Err (line_fault k h (length rows + 1))

module _ {Row : Type 0} {s : Sheet Row} (law : Lawful s) where
  abbrev Stop : Kind → List Row → List ℕ → Type 0
  Stop full rows rest = (rest ≡ []) × s.Whole rows
  Stop few rows rest = TooFew s rows rest
  Stop (bad k) rows rest = BadLine s k rows rest

  record Stands (bs : List ℕ) (k : Kind) (rows : List Row) : Type 0 where
    short : length bs ≤ 65535
    rest : List ℕ
    whole : bs ≡ render s rows ++ rest
    good : Good s rows
    stop : Stop k rows rest

  abbrev Holds : List ℕ → Way Row → Type 0
  Holds bs long = 65535 < length bs
  Holds bs misnamed = Misnamed s bs
  Holds bs unended = Unended s bs
  Holds bs (stops k rows) = Stands bs k rows

  nothing : {xs : List ℕ} → xs ≡ [] → 0 < length xs → ⊥
  nothing e l = omega (arith, ap length e)

  no_go : (k : Kind) {rows : List Row} {rest : List ℕ} → Stop k rows rest → Goes law rows rest → ⊥
  no_go full h g = nothing h.0 (grows law g)
  no_go few h g = nothing h.0 (grows law g)
  no_go (bad k) {rows = rows} {rest = rest} h g = none_bad (checks s rows rest) k (passes law g) h.1

  stop_same : (rows : List Row) (rest : List ℕ) (k j : Kind) → Stop k rows rest → Stop j rows rest → k ≡ j
  stop_same rows rest full full h g = refl
  stop_same rows rest full few h g = absurd (g.1 h.1)
  stop_same rows rest full (bad j) h g = absurd (nothing h.0 g.0)
  stop_same rows rest few full h g = absurd (h.1 g.1)
  stop_same rows rest few few h g = refl
  stop_same rows rest few (bad j) h g = absurd (nothing h.0 g.0)
  stop_same rows rest (bad k) full h g = absurd (nothing g.0 h.0)
  stop_same rows rest (bad k) few h g = absurd (nothing g.0 h.0)
  stop_same rows rest (bad k) (bad j) h g = ap bad (one_first (checks s rows rest) k j h.1 g.1)

  after_names : (rows : List Row) (rest : List ℕ) → render s rows ++ rest ≡ s.names ++ 10 ∷ (flat_map (written s) rows ++ rest)
  after_names rows rest = append_assoc s.names (10 ∷ flat_map (written s) rows) rest

  tails : {x y : ℕ} {xs ys : List ℕ} → x ∷ xs ≡ y ∷ ys → xs ≡ ys
  tails e = cc

  stands_same : {bs : List ℕ} (k j : Kind) (rows others : List Row) → Stands bs k rows → Stands bs j others → stops k rows ≡ stops j others
  stands_same k j rows others h g =
      let e = tails (append_cancel_left s.names _ _ (sym (after_names rows h.rest) ∙ sym h.whole ∙ g.whole ∙ after_names others g.rest)) in
      ⊎_elim
      (λ same. let kinds = stop_same rows h.rest k j h.stop (subst (λ l. Stop j l h.rest) (sym same.0) (subst (Stop j others) (sym same.1) g.stop)) in (λ i. stops (kinds i) (same.0 i)))
      (λ goes. absurd (⊎_elim (no_go k h.stop) (no_go j g.stop) goes))
      (compare_rows law [] rows others h.rest g.rest h.good g.good e)

  longer : {bs : List ℕ} {k : Kind} {rows : List Row} → Unended s bs → Stands bs k rows → ⊥
  longer {rows = rows} h g = omega (arith, ap length (sym h.names ∙ g.whole ∙ after_names rows g.rest), length-append s.names (10 ∷ (flat_map (written s) rows ++ g.rest)))

  one_way : (bs : List ℕ) (v w : Way Row) → Holds bs v → Holds bs w → v ≡ w
  one_way bs long long h g = refl
  one_way bs long misnamed h g = absurd (omega arith)
  one_way bs long unended h g = absurd (omega arith)
  one_way bs long (stops j others) h g = absurd (omega arith)
  one_way bs misnamed long h g = absurd (omega arith)
  one_way bs misnamed misnamed h g = refl
  one_way bs misnamed unended h g = absurd (h.other g.names)
  one_way bs misnamed (stops j others) h g = absurd (h.none _ (g.whole ∙ after_names others g.rest))
  one_way bs unended long h g = absurd (omega arith)
  one_way bs unended misnamed h g = absurd (g.other h.names)
  one_way bs unended unended h g = refl
  one_way bs unended (stops j others) h g = absurd (longer h g)
  one_way bs (stops k rows) long h g = absurd (omega arith)
  one_way bs (stops k rows) misnamed h g = absurd (g.none _ (h.whole ∙ after_names rows h.rest))
  one_way bs (stops k rows) unended h g = absurd (longer g h)
  one_way bs (stops k rows) (stops j others) h g = stands_same k j rows others h g

  abbrev Went : List ℕ → Result (List Row) SheetFault → Type 0
  Went bs r = (w : Way Row) × Holds bs w × (r ≡ answer s.number w)

  stopped : {bs : List ℕ} {h n : ℕ} (k : ℕ) → h ≡ s.number → At s (BadLine s k) bs n → Went bs (Err (line_fault k h n))
  unfolding answer
  stopped k e a = (stops (bad k) a.rows, record { short = a.short; rest = a.rest; whole = a.whole; good = a.good; stop = a.here }, (λ i. Err (line_fault k (e i) (a.count i))))

  went : (bs : List ℕ) (r : Result (List Row) SheetFault) → Outcome s bs r → Went bs r
  unfolding answer
  went bs (Ok rows) h = (stops full rows, record { short = h.short; rest = []; whole = h.whole ∙ sym (append-nil _); good = h.good; stop = (refl, h.complete) }, refl)
  went bs (Err (TooLong n)) h = (long, h.1, ap (λ m. Err (TooLong m)) h.0)
  went bs (Err (Names n)) h = (misnamed, h.1, ap (λ m. Err (Names m)) h.0)
  went bs (Err (Shape n l)) (e, inl h) = (unended, h.1, (λ i. Err (Shape (e i) (h.0 i))))
  went bs (Err (Shape n l)) (e, inr h) = stopped 0 e h
  went bs (Err (Field n l)) h = stopped 1 h.0 h.1
  went bs (Err (Turn n l)) h = stopped 2 h.0 h.1
  went bs (Err (Crossed n l)) h = stopped 3 h.0 h.1
  went bs (Err (Short n l)) h = (stops few h.1.rows, record { short = h.1.short; rest = h.1.rest; whole = h.1.whole; good = h.1.good; stop = h.1.here }, (λ i. Err (Short (h.0 i) (h.1.count i))))
  went bs (Err Memory) h = absurd h

  pub one_outcome : OneOutcome s
  one_outcome bs r q h g =
      let v = went bs r h in
      let w = went bs q g in
      v.2 ∙ ap (answer s.number) (one_way bs v.0 w.0 v.1 w.1) ∙ sym w.2

  pub one_writing : OneWriting s
  one_writing rows others h g e =
      let bytes = tails (append_cancel_left s.names _ _ e) in
      ⊎_elim
      (λ same. same.0)
      (λ goes. absurd (⊎_elim (λ x. nothing {xs = []} refl (grows law x)) (λ y. nothing {xs = []} refl (grows law y)) goes))
      (compare_rows law [] rows others [] [] h g (append-nil _ ∙ bytes ∙ sym (append-nil _)))

  pub only : (bs : List ℕ) (r : Result (List Row) SheetFault) → Outcome s bs r → Only (Outcome s bs) r
  only bs = only_one (Outcome s bs) (one_outcome bs)

  pub reads_back : ReadsBack s
  reads_back rows h all short = only (render s rows) (Ok rows) (record { short = short; whole = refl; good = h; complete = all })

  pub exactly : {V : Type 0} (items : V → List Row) (bs : List ℕ) (r : Result V SheetFault) → MatchResult r (λ v. Granted s bs (items v)) (Told (Refused s bs)) → Exactly items sheet_refusal (Outcome s bs) r
  exactly items bs (Ok v) h = only bs (Ok (items v)) h
  exactly items bs (Err f) h = λ numbered. only bs (Err f) (h numbered)

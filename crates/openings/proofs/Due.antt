-- How many advances a run may still take. Assumes nothing.
use Rattle.std.proofs.Common.{◌≡◌, ℕ, zero, suc, ◌+◌, ◌-◌, ◌*◌, ◌<◌, ◌≤◌, List, [], ◌∷◌, length, drop, refl, ap, add-mul, arith}
use Rattle.platform.specs.Units.{Device}
use Rattle.boards.specs.Meaning.{Meaning}
use Rattle.histories.specs.declared.rail.Rail.{Rail}
use Rattle.histories.specs.declared.run.Answer.{Answer}
use Rattle.histories.specs.declared.run.Direction.{Direction}
use Rattle.histories.specs.declared.run.Direction.TheVariants.{Forward, Backward}
use Rattle.histories.specs.declared.step.Step.{Step}
use Rattle.histories.specs.declared.step.Step.TheVariants.{Start, Wait}
use Rattle.histories.specs.Rails.{Ready}
use Rattle.openings.specs.Plans.{Plan, rails_at, waits, leads_start, starts_before, steps_left, waits_left}
use Rattle.openings.specs.Runs.{meanings, State, at, shut, Advanced, start_ahead, wait_ahead, still_ahead, end_ahead, wait_back, start_back, still_back, end_back}
use Rattle.histories.proofs.Due.{drop_next}
use Rattle.openings.proofs.Opening.{Ground}
use Rattle.openings.proofs.Kept.{Kept, Keeps}

-- the advances that a run may still take: one for each step left, the credit of the rail polled next, and the patience for each later wait
abbrev pub due_ahead : ℕ → List Step → Meaning → ℕ
due_ahead p [] b = 0
due_ahead p (Start r t ∷ rest) b = 1 + length rest + waits rest * p
due_ahead p (Wait r ∷ rest) b = 1 + length rest + b.credit r + waits rest * p

-- the same backward from place k + 1, with w starts before place k
abbrev pub due_back : ℕ → ℕ → ℕ → List Step → Meaning → ℕ
due_back p k w [] b = 1 + k + w * p
due_back p k w (Start r t ∷ rest) b = 1 + k + b.credit r + w * p
due_back p k w (Wait r ∷ rest) b = 1 + k + w * p

-- the same by place and direction
abbrev pub due : Plan → ℕ → Direction → Meaning → ℕ
due q k Forward b = due_ahead q.patience (drop k q.script) b
due q zero Backward b = 0
due q (suc k) Backward b = due_back q.patience k (starts_before q.script k) (drop k q.script) b

-- the same of a state
abbrev pub due_at : Plan → State Meaning → ℕ
due_at q (at k d b) = due q k d b
due_at q (shut b) = 0

-- that is no more than the steps left and the waits left times the patience
due_ahead_most : (n p : ℕ) (rails : ℕ → Rail) (b : Meaning) (l : List Step) → Ready n l rails → ((i : ℕ) → i < n → b.credit i ≤ p) → due_ahead p l b ≤ length l + waits l * p
due_ahead_most n p rails b [] ok c = omega arith
due_ahead_most n p rails b (Start r t ∷ rest) ok c = omega arith
due_ahead_most n p rails b (Wait r ∷ rest) ok c = omega (arith, add-mul 1 (waits rest) p, c r ok.0)

due_back_most : (n p k w : ℕ) (rails : ℕ → Rail) (b : Meaning) (l : List Step) → Ready n l rails → ((i : ℕ) → i < n → b.credit i ≤ p) → due_back p k w l b ≤ suc k + (leads_start l + w) * p
due_back_most n p k w rails b [] ok c = omega (arith, add-mul 0 w p)
due_back_most n p k w rails b (Start r t ∷ rest) ok c = omega (arith, add-mul 1 w p, c r ok.0)
due_back_most n p k w rails b (Wait r ∷ rest) ok c = omega (arith, add-mul 0 w p)

module _ {units : List Device} {q : Plan} (o : Ground units q) where
  pub due_most : (k : ℕ) (d : Direction) (b : Meaning) → Kept q k d b → due q k d b ≤ steps_left q k d + waits_left q k d * q.patience
  due_most k Forward b c = due_ahead_most q.rails q.patience (rails_at q k) b (drop k q.script) (o.formed k c.place) c.patient
  due_most zero Backward b c = omega arith
  due_most (suc k) Backward b c = due_back_most q.rails q.patience k (starts_before q.script k) (rails_at q k) b (drop k q.script) (o.formed k (omega (arith, c.place))) c.patient

  -- each advance takes one
  pub due_falls : {x y : State Meaning} {a : Answer} {ms : List Meaning} → Keeps q y → Advanced (meanings q) q x a ms y → due_at q y ≤ due_at q x - 1
  due_falls c (start_ahead {k} {r} {t} {rest} {b} {b'} e m) =
      let left : steps_left q (suc k) Forward + waits_left q (suc k) Forward * q.patience ≡ length rest + waits rest * q.patience =
      ap (λ l. length l + waits l * q.patience) (drop_next k q.script e) in
      omega (arith, left, due_most (suc k) Forward b' c, ap (λ l. due_ahead q.patience l b) e)
  due_falls c (wait_ahead {k} {r} {rest} {b} {b'} e m) =
      let left : steps_left q (suc k) Forward + waits_left q (suc k) Forward * q.patience ≡ length rest + waits rest * q.patience =
      ap (λ l. length l + waits l * q.patience) (drop_next k q.script e) in
      omega (arith, left, due_most (suc k) Forward b' c, ap (λ l. due_ahead q.patience l b) e)
  due_falls c (still_ahead {k} {r} {rest} {b} {b'} e m) =
      omega (arith, m.told.1, ap (λ l. due_ahead q.patience l b) e, ap (λ l. due_ahead q.patience l b') e)
  due_falls c (end_ahead {k} {b} e) = omega (arith, ap (λ l. due_ahead q.patience l b) e)
  due_falls c (wait_back {k} {r} {rest} {b} {b'} e m) =
      omega (arith, due_most k Backward b' c, ap (λ l. due_back q.patience k (starts_before q.script k) l b) e)
  due_falls c (start_back {k} {r} {t} {rest} {b} {b'} e m) =
      omega (arith, due_most k Backward b' c, ap (λ l. due_back q.patience k (starts_before q.script k) l b) e)
  due_falls c (still_back {k} {r} {t} {rest} {b} {b'} e m) =
      omega (arith, m.told.1, ap (λ l. due_back q.patience k (starts_before q.script k) l b) e, ap (λ l. due_back q.patience k (starts_before q.script k) l b') e)
  due_falls c end_back = omega arith

-- a run with nothing due has no step left
none_due_ahead : (p : ℕ) (b : Meaning) (l : List Step) → due_ahead p l b ≡ 0 → length l ≡ 0
none_due_ahead p b [] e = refl
none_due_ahead p b (Start r t ∷ rest) e = absurd (omega arith)
none_due_ahead p b (Wait r ∷ rest) e = absurd (omega arith)

some_due_back : (p k w : ℕ) (b : Meaning) (l : List Step) → due_back p k w l b ≡ 0 → suc k ≡ 0
some_due_back p k w b [] e = absurd (omega arith)
some_due_back p k w b (Start r t ∷ rest) e = absurd (omega arith)
some_due_back p k w b (Wait r ∷ rest) e = absurd (omega arith)

pub none_due : (q : Plan) (k : ℕ) (d : Direction) (b : Meaning) → due q k d b ≡ 0 → steps_left q k d ≡ 0
none_due q k Forward b e = none_due_ahead q.patience b (drop k q.script) e
none_due q zero Backward b e = refl
none_due q (suc k) Backward b e = some_due_back q.patience k (starts_before q.script k) b (drop k q.script) e

-- What a run keeps at each place: every still rail at its value, every moving rail between its ends and sent to one. Assumes nothing.
use Rattle.std.proofs.Common.{◌≡◌, ℕ, suc, ◌<◌, ◌≤◌, ◌≢◌, List, length, drop, sym, refl, ap, ◌∙◌, subst, arith}
use Rattle.platform.specs.Units.{Device}
use Rattle.boards.specs.Meaning.{Meaning, Between, Started, Polled}
use Rattle.histories.specs.declared.rail.Rail.{Rail}
use Rattle.histories.specs.declared.rail.Rail.TheVariants.{Still, Moving}
use Rattle.histories.specs.declared.run.Answer.{Answer}
use Rattle.histories.specs.declared.run.Direction.{Direction}
use Rattle.histories.specs.declared.run.Direction.TheVariants.{Forward, Backward}
use Rattle.histories.specs.declared.step.Step.{Step}
use Rattle.histories.specs.Rails.{origin_of, stepped, Ready}
use Rattle.histories.specs.Spans.{InSpan}
use Rattle.openings.specs.Plans.{Plan, rails_at}
use Rattle.openings.specs.Runs.{meanings, State, at, shut, Advanced, start_ahead, wait_ahead, still_ahead, end_ahead, wait_back, start_back, still_back, end_back, towards}
use Rattle.histories.proofs.Kept.{by_rail, start_here, start_there, wait_here, wait_there, room}
use Rattle.openings.proofs.Opening.{Ground}

-- a rail with this value and target, as the run has it
abbrev pub Holds : Direction → Rail → ℕ → ℕ → Type 0
Holds d (Still v) x g = (x ≡ v) × (g ≡ v)
Holds d (Moving o t) x g = Between o t x × (g ≡ towards d o t)

-- the run at place k, going in direction d, on the board b
pub record Kept (q : Plan) (k : ℕ) (d : Direction) (b : Meaning) : Type 0 where
  pub place : k ≤ length q.script
  pub rail : (i : ℕ) → i < q.rails → Holds d (rails_at q k i) (b.value i) (b.target i)
  pub patient : (i : ℕ) → i < q.rails → b.credit i ≤ q.patience

-- the same of a state
abbrev pub Keeps : Plan → State Meaning → Type 0
Keeps q (at k d b) = Kept q k d b
Keeps q (shut b) = Unit {0}

-- it has a value in its span
pub holds_span : (d : Direction) (s : Rail) (x g : ℕ) → Holds d s x g → InSpan s x
holds_span d (Still v) x g h = h.0
holds_span d (Moving o t) x g h = h.0

-- a poll leaves it between its ends
pub holds_polled : (d : Direction) (s : Rail) (x g x' g' : ℕ) → Holds d s x g → Between x g x' → g' ≡ g → Holds d s x' g'
holds_polled d (Still v) x g x' g' h b e = (omega arith, omega arith)
holds_polled Forward (Moving o t) x g x' g' h b e = (omega arith, omega arith)
holds_polled Backward (Moving o t) x g x' g' h b e = (omega arith, omega arith)

-- the same rail, value and target, however given
pub holds_as : (d : Direction) {s s' : Rail} {x x' g g' : ℕ} → Holds d s x g → s' ≡ s → x' ≡ x → g' ≡ g → Holds d s' x' g'
holds_as d h es ex eg = rw (es, ex, eg) h

module _ {units : List Device} {q : Plan} (o : Ground units q) where
  -- the rails one place on
  next : (k : ℕ) {l : List Step} → drop k q.script ≡ l → (i : ℕ) → rails_at q (suc k) i ≡ stepped l (rails_at q k) i
  next k e i = ap (λ l. stepped l (rails_at q k) i) e

  -- the step at a place is in form
  pub ready : (k : ℕ) {l : List Step} → k ≤ length q.script → drop k q.script ≡ l → Ready q.rails l (rails_at q k)
  ready k h e = subst (λ l. Ready q.rails l (rails_at q k)) e (o.formed k h)

  -- a poll with the place kept
  polled_holds : (k : ℕ) (d : Direction) {r : ℕ} {b b' : Meaning} {a : _} → Kept q k d b → Polled q.rails b r a b' → Kept q k d b'
  polled_holds k d {b} {b'} c m = record {
    place = c.place;
    rail = λ i h. holds_polled d (rails_at q k i) (b.value i) (b.target i) (b'.value i) (b'.target i) (c.rail i h) (m.value i h) (m.target i h);
    patient = λ i h. omega (arith, c.patient i h, m.credit i h);
  }

  -- a start, at any place before and after: rail r holds as it now is, and the others are as they were
  started_holds : (k k' : ℕ) (d : Direction) {r t : ℕ} {b b' : Meaning} → k' ≤ length q.script → Kept q k d b → Started q.rails q.patience b r t b'
      → Holds d (rails_at q k' r) (b'.value r) (b'.target r)
      → ((i : ℕ) → i ≢ r → rails_at q k' i ≡ rails_at q k i)
      → Kept q k' d b'
  started_holds k k' d {r} {t} {b} {b'} p c m here there = record {
    place = p;
    rail = by_rail (λ i. Holds d (rails_at q k' i) (b'.value i) (b'.target i)) q.rails r here
        (λ i h ne. holds_as d (c.rail i h) (there i ne) (m.value i h) (m.others i h ne).0);
    patient = by_rail (λ i. b'.credit i ≤ q.patience) q.rails r m.credit
        (λ i h ne. omega (arith, c.patient i h, (m.others i h ne).2));
  }

  -- a poll answered yes
  arrived_holds : (k k' : ℕ) (d : Direction) {r : ℕ} {b b' : Meaning} {a : _} → k' ≤ length q.script → Kept q k d b → Polled q.rails b r a b'
      → Holds d (rails_at q k' r) (b'.value r) (b'.target r)
      → ((i : ℕ) → i ≢ r → rails_at q k' i ≡ rails_at q k i)
      → Kept q k' d b'
  arrived_holds k k' d {r} {b} {b'} p c m here there = let w = polled_holds k d c m in record {
    place = p;
    rail = by_rail (λ i. Holds d (rails_at q k' i) (b'.value i) (b'.target i)) q.rails r here
        (λ i h ne. holds_as d (w.rail i h) (there i ne) refl refl);
    patient = w.patient;
  }

  -- every advance keeps it
  pub advance_keeps : {x y : State Meaning} {a : Answer} {ms : List Meaning} → Keeps q x → Advanced (meanings q) q x a ms y → Keeps q y
  advance_keeps c (start_ahead {k} {r} {t} {rest} {b} {b'} e m) =
      let rd = ready k c.place e in
      let was : (b.value r ≡ rd.1.0) × (b.target r ≡ rd.1.0) = rw rd.1.1 at (c.rail r rd.0) in
      started_holds k (suc k) Forward (room k q.script e) c m
      (holds_as Forward {s = Moving rd.1.0 t} {x = rd.1.0} {g = t} (omega arith, refl)
      (next k e r ∙ start_here (rails_at q k) r t rd.1.0 rest rd.1.1) (m.value r rd.0 ∙ was.0) m.target)
      (λ i ne. next k e i ∙ start_there (rails_at q k) r t i rest ne)
  advance_keeps c (wait_ahead {k} {r} {rest} {b} {b'} e m) =
      let rd = ready k c.place e in
      let was : Holds Forward (Moving rd.1.0 rd.1.1) (b.value r) (b.target r) = rw rd.1.2 at (c.rail r rd.0) in
      let gone : b'.target r ≡ rd.1.1 = m.target r rd.0 ∙ was.1 in
      arrived_holds k (suc k) Forward (room k q.script e) c m
      (holds_as Forward {s = Still rd.1.1} {x = rd.1.1} {g = rd.1.1} (refl, refl)
      (next k e r ∙ wait_here (rails_at q k) r rd.1.0 rd.1.1 rest rd.1.2) (m.told.0 ∙ gone) gone)
      (λ i ne. next k e i ∙ wait_there (rails_at q k) r i rest ne)
  advance_keeps c (still_ahead {k} {r} {rest} {b} {b'} e m) = polled_holds k Forward c m
  advance_keeps c (end_ahead e) = c
  advance_keeps c (wait_back {k} {r} {rest} {b} {b'} e m) =
      let p : k ≤ length q.script = omega (arith, c.place) in
      let rd = ready k p e in
      let was : Holds Backward (Still rd.1.1) (b.value r) (b.target r) =
      rw (next k e r ∙ wait_here (rails_at q k) r rd.1.0 rd.1.1 rest rd.1.2) at (c.rail r rd.0) in
      started_holds (suc k) k Backward p c m
      (holds_as Backward {s = Moving rd.1.0 rd.1.1} {x = rd.1.1} {g = rd.1.0} (omega arith, refl)
      rd.1.2 (m.value r rd.0 ∙ was.0) (m.target ∙ ap origin_of rd.1.2))
      (λ i ne. sym (next k e i ∙ wait_there (rails_at q k) r i rest ne))
  advance_keeps c (start_back {k} {r} {t} {rest} {b} {b'} e m) =
      let p : k ≤ length q.script = omega (arith, c.place) in
      let rd = ready k p e in
      let was : Holds Backward (Moving rd.1.0 t) (b.value r) (b.target r) =
      rw (next k e r ∙ start_here (rails_at q k) r t rd.1.0 rest rd.1.1) at (c.rail r rd.0) in
      let gone : b'.target r ≡ rd.1.0 = m.target r rd.0 ∙ was.1 in
      arrived_holds (suc k) k Backward p c m
      (holds_as Backward {s = Still rd.1.0} {x = rd.1.0} {g = rd.1.0} (refl, refl)
      rd.1.1 (m.told.0 ∙ gone) gone)
      (λ i ne. sym (next k e i ∙ start_there (rails_at q k) r t i rest ne))
  advance_keeps c (still_back {k} {r} {t} {rest} {b} {b'} e m) = polled_holds (suc k) Backward c m
  advance_keeps c end_back = c

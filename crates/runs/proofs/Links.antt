-- The links of a history, from what the code has in hand. Assumes nothing.
use Rattle.std.proofs.Common.{◌≡◌, ℕ, zero, suc, ◌+◌, ◌-◌, ◌<◌, ◌≤◌, false, List, [], ◌∷◌, length, drop, Some, None, Option, refl, ap, subst, add-one, arith, length-drop}
use Rattle.boards.specs.declared.meaning.Board.{Ghosts}
use Rattle.histories.specs.declared.run.Answer.TheVariants.{Moved, Waiting, Arrived}
use Rattle.histories.specs.declared.run.Direction.{Direction}
use Rattle.histories.specs.declared.run.Direction.TheVariants.{Forward, Backward}
use Rattle.histories.specs.declared.step.Step.{Step}
use Rattle.histories.specs.declared.step.Step.TheVariants.{Start, Wait}
use Rattle.histories.specs.Rails.{rail_of, origin_of}
use Rattle.openings.specs.Plans.{rails_at}
use Rattle.openings.specs.Runs.{at, Advanced, still_ahead, end_ahead, still_back, end_back}
use Rattle.openings.proofs.Lows.{low_rails}
use Rattle.runs.specs.declared.journey.Journey.{Journey}
use Rattle.runs.specs.Journeys.{current}
use Rattle.runs.specs.Working.{Asked, boards, plan_of, script_of, Same, Suited, Worked}
use Rattle.runs.proofs.Places.{ahead, behind, none_ahead, rail_here}

module _ {B : Type 0} (make : Ghosts B) (j : Journey) (b : B) (fits : Suited make j b) where
  -- the rail of the current step is one of the board's
  rail_known : (d : Direction) (s : Step) → Some s ≡ current (script_of j) j.place d → rail_of s < j.rails
  rail_known Forward s e = rail_here j.rails j.place (script_of j) j.known (ahead (script_of j) j.place s e).1
  rail_known Backward s e = rail_here j.rails (j.place - 1) (script_of j) j.known (behind (script_of j) j.place s e).1.1

  pub step_rail : (s : Step) → Some s ≡ current (script_of j) j.place j.direction → rail_of s < make.rails b
  step_rail s e = omega (arith, rail_known j.direction s e, fits.counted)

  -- and where it comes from is not above the ceiling
  pub origin_low : (r : ℕ) → Some (Wait r) ≡ current (script_of j) j.place j.direction → (k : ℕ) → origin_of (rails_at (plan_of make j b) k r) ≤ make.CEILING
  origin_low r e k = (low_rails (plan_of make j b) fits k r (rail_known j.direction (Wait r) e)).0

module _ {B : Type 0} (make : Ghosts B) (j j' : Journey) (b b' : B) (s : Step) (now : Some s ≡ current (script_of j) j.place j.direction) where
  pub moved_on : j.direction ≡ Forward → j'.place ≡ j.place + 1 → j'.direction ≡ j.direction → Same j j'
      → ((rest : List Step) → drop j.place (script_of j) ≡ s ∷ rest → Advanced (boards make) (plan_of make j b) (at j.place Forward b) Moved (b' ∷ []) (at (suc j.place) Forward b'))
      → Worked make j b Moved j' b'
  moved_on d ep ed same link =
      let w = ahead (script_of j) j.place s (rw d at now) in
      record { moments = b' ∷ []; advanced = rw (ep, ed, d, add-one j.place) (link w.0 w.1); same = same }

  pub moved_back : j.direction ≡ Backward → j'.place ≡ j.place - 1 → j'.direction ≡ j.direction → Same j j'
      → ((rest : List Step) → drop (j.place - 1) (script_of j) ≡ s ∷ rest → Advanced (boards make) (plan_of make j b) (at (suc (j.place - 1)) Backward b) Moved (b' ∷ []) (at (j.place - 1) Backward b'))
      → Worked make j b Moved j' b'
  moved_back d ep ed same link =
      let w = behind (script_of j) j.place s (rw d at now) in
      let e : suc (j.place - 1) ≡ j.place = omega (arith, w.0) in
      record {
        moments = b' ∷ [];
        advanced = rw (ep, ed, d) (subst (λ k. Advanced (boards make) (plan_of make j b) (at k Backward b) Moved (b' ∷ []) (at (j.place - 1) Backward b')) e (link w.1.0 w.1.1));
        same = same;
      }

-- the same run, at the same place
same_as : (j : Journey) → Same j j
same_as j = record { rails = refl; first = refl; steps = refl }

module _ {B : Type 0} (make : Ghosts B) (j : Journey) (b : B) where
  pub waiting_on : (b' : B) (r : ℕ) → j.direction ≡ Forward → Some (Wait r) ≡ current (script_of j) j.place j.direction → Asked make b r false b' → Worked make j b Waiting j b'
  waiting_on b' r d now m =
      let w = ahead (script_of j) j.place (Wait r) (rw d at now) in
      record { moments = b' ∷ []; advanced = rw d (still_ahead w.1 m); same = same_as j }

  pub waiting_back : (b' : B) (r t : ℕ) → j.direction ≡ Backward → Some (Start r t) ≡ current (script_of j) j.place j.direction → Asked make b r false b' → Worked make j b Waiting j b'
  waiting_back b' r t d now m =
      let w = behind (script_of j) j.place (Start r t) (rw d at now) in
      let e : suc (j.place - 1) ≡ j.place = omega (arith, w.0) in
      record {
        moments = b' ∷ [];
        advanced = rw d (subst (λ k. Advanced (boards make) (plan_of make j b) (at k Backward b) Waiting (b' ∷ []) (at k Backward b')) e (still_back w.1.1 m));
        same = same_as j;
      }

  -- with no step left in its direction it has arrived
  ended : (k : ℕ) (d : Direction) → k ≤ length (script_of j) → ◌≡◌ {A = Option Step} None (current (script_of j) k d) → Advanced (boards make) (plan_of make j b) (at k d b) Arrived [] (at k d b)
  ended k Forward le e = end_ahead (none_ahead (script_of j) k e)
  ended zero Backward le e = end_back
  ended (suc k) Backward le e = absurd (omega (arith, le, ap length (none_ahead (script_of j) k e), length-drop k (script_of j)))

  pub arrived : ◌≡◌ {A = Option Step} None (current (script_of j) j.place j.direction) → Worked make j b Arrived j b
  arrived e = record {
    moments = [];
    advanced = ended j.place j.direction j.within e;
    same = same_as j;
  }

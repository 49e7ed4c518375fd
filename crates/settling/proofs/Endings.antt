-- The search before the first unit and after the last. Assumes nothing.
use Rattle.std.proofs.Common.{◌≡◌, ℕ, ◌<◌, List, length, replicate, Some, None, sym, refl, subst, ⊎_elim, arith}
use Rattle.std.proofs.lemmas.List.{get_or-replicate, get_or_past}
use Rattle.std.proofs.lemmas.Bool.{cases_lt}
use Rattle.sheets.specs.declared.rows.Demand.{Demand}
use Rattle.platform.specs.declared.parts.Bounds.{Bounds}
use Rattle.platform.specs.declared.parts.Mix.{Mix}
use Rattle.platform.specs.Units.{Device, bounds_at, value_of}
use Rattle.platform.specs.Rules.{Sound}
use Rattle.settling.specs.declared.draft.Draft.{Draft}
use Rattle.settling.specs.Choices.{Known, Demanded, mode_of, InWindow, Fits, Hopeless}
use Rattle.settling.specs.Tolls.{Toll, cost}
use Rattle.settling.specs.Narrowing.{Hold}
use Rattle.settling.specs.Searching.{Stands, Covers, Searched}
use Rattle.settling.specs.Settling.{Settlement}
use Rattle.settling.proofs.Hopes.{meets_rests, hopeless_exactly}

zeros : (k : ℕ) → mode_of (replicate 24 0) k ≡ 0
zeros k = ⊎_elim (get_or-replicate 24 k 0 0) (get_or_past (replicate 24 0) k 0) (cases_lt k 24)

module _ {C : Type 0} (t : Toll C) (units : List Device) (demands : List Demand) where
  pub stands_first : (windows : List Bounds) (spent : C) → Hold (Demanded demands) windows → length windows ≡ 24 → spent ≡ t.nothing → Stands t units demands 0 (record { modes = replicate 24 0; windows = windows; cost = spent })
  stands_first windows spent hold long free = record {
    rest = λ k h. absurd (omega arith);
    spare = λ k h. zeros k;
    windows = λ r h v. (λ w. ((hold r h v).0 w, λ k lt. absurd (omega arith)), λ w. (hold r h v).1 w.0);
    cost = free;
    sized = (refl, long);
  }

  module _ (rails : ℕ) (sound : Sound rails units) (modes : List ℕ) where
    pub settled_none : Searched t units demands 0 modes None None → Hopeless units demands
    settled_none searched = (hopeless_exactly rails units demands sound).0 (λ c fits. searched.covers c fits (λ k h. absurd (omega arith)))

    pub settled_some : Known rails demands → (d : Draft C) (targets : Mix) → ((r : ℕ) → r < 24 → value_of targets.values r ≡ (bounds_at d.windows r).low) → length targets.values ≡ 24 → Searched t units demands 0 modes None (Some d) → Settlement t rails units demands (record { modes = d.modes; windows = d.windows; targets = targets; cost = d.cost })
    settled_some known d targets lows long searched =
        let stands = searched.found.0 in
        let some = searched.found.1 in
        let In : ℕ → ℕ → Type 0 = InWindow units demands d.modes in
        let low_in : (r : ℕ) → r < 24 → In r (bounds_at d.windows r).low = λ r h. (stands.windows r h _).0 (omega arith, some r h) in
        let inside : (r : ℕ) → r < 24 → In r (value_of targets.values r) = λ r h. subst (In r) (sym (lows r h)) (low_in r h) in
        let mix = meets_rests rails units demands sound d.modes stands.rest targets.values inside in
        let covers : (c : List ℕ) → Fits units demands c → Covers t units demands (Some d) c = λ c fits. searched.covers c fits (λ k h. absurd (omega arith)) in
        record {
          known = known;
          least = record {
            fits = record { rest = stands.rest; meet = λ r h. ((bounds_at d.windows r).low, low_in r h) };
            cheapest = λ c fits. subst (λ (x : C). t.AtMost x (cost t units c)) stands.cost (covers c fits).0;
            first = λ c fits tie. (covers c fits).1 (subst (λ (x : C). t.AtMost (cost t units c) x) (sym stands.cost) tie);
          };
          costs = stands.cost;
          windows = stands.windows;
          lows = lows;
          rests = mix.1;
          meets = mix.0;
          spare = stands.spare;
          sized = (stands.sized.0, stands.sized.1, long);
        }

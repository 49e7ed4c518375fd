-- One bound more on one rail narrows the windows. Assumes nothing.
use Rattle.std.proofs.Common.{◌≡◌, ℕ, ◌+◌, ◌<◌, ◌≢◌, List, length, set, sym, refl, subst, ⊎_elim, arith, get_or-set_other, get_or-set_same, below_more}
use Rattle.std.proofs.lemmas.Bool.{cases_eq}
use Rattle.sheets.specs.declared.rows.Demand.{Demand}
use Rattle.platform.specs.declared.parts.Bounds.{Bounds}
use Rattle.platform.specs.Units.{Device, bounds_at, rail_at, pin_bounds, Within}
use Rattle.settling.specs.Choices.{demand_at, DemandedTo}
use Rattle.settling.specs.Narrowing.{shared, Hold, StillTo}

-- Q asks of rail x what P does, and to be within b too
module _ (P Q : ℕ → ℕ → Type 0) (windows : List Bounds) (x : ℕ) (b : Bounds) (long : length windows ≡ 24) (there : x < 24) (hold : Hold P windows) (less : (r v : ℕ) → Q r v → P r v × (x ≡ r → Within b v)) (more : (r v : ℕ) → P r v → (x ≡ r → Within b v) → Q r v) where
  both : Bounds
  both = shared (bounds_at windows x) b

  here : bounds_at (set windows x both) x ≡ both
  here = let lt : x < length windows = omega arith in get_or-set_same windows x both _ lt

  elsewhere : (r : ℕ) → (x ≡ r → ⊥) → bounds_at (set windows x both) r ≡ bounds_at windows r
  elsewhere r off = let ne : r ≢ x = λ e. off (sym e) in get_or-set_other windows x r both _ ne

  pub hold_more : Hold Q (set windows x (shared (bounds_at windows x) b))
  unfolding both
  hold_more r h v =
      let W : Bounds → Type 0 = λ w. Within w v in
      let Goal : ℕ → Type 0 = λ s. (Within (bounds_at (set windows x both) s) v → Q s v) × (Q s v → Within (bounds_at (set windows x both) s) v) in
      ⊎_elim
      (λ e.
      let at : Goal x = (
        λ w.
            let in_both : Within both v = subst W here w in
            more x v ((hold x there v).0 (omega arith, omega arith)) (λ _. (omega arith, omega arith)),
        λ q.
            let old = less x v q in
            let w = (hold x there v).1 old.0 in
            let n = old.1 refl in
            subst W (sym here) (omega arith, omega arith),
      ) in
      subst Goal e at)
      (λ off. (
        λ w. more r v ((hold r h v).0 (subst W (elsewhere r off) w)) (λ e. absurd (off e)),
        λ q. subst W (sym (elsewhere r off)) ((hold r h v).1 (less r v q).0),
      ))
      (cases_eq x r)

-- one demand more
pub demand_more : (demands : List Demand) (i : ℕ) (windows : List Bounds) → length windows ≡ 24 → (demand_at demands i).rail < 24 → Hold (DemandedTo i demands) windows → Hold (DemandedTo (i + 1) demands) (set windows (demand_at demands i).rail (shared (bounds_at windows (demand_at demands i).rail) (record { low = (demand_at demands i).low; high = (demand_at demands i).high })))
demand_more demands i windows long there hold = hold_more
    (DemandedTo i demands)
    (DemandedTo (i + 1) demands)
    windows
    (demand_at demands i).rail
    (record { low = (demand_at demands i).low; high = (demand_at demands i).high })
    long
    there
    hold
    (λ r v q. ((q.0, λ j lt. q.1 j (omega arith)), q.1 i (omega arith)))
    (λ r v p new. let On : ℕ → Type 0 = λ j. (demand_at demands j).rail ≡ r → Within (record { low = (demand_at demands j).low; high = (demand_at demands j).high }) v in (p.0, below_more On i p.1 new))

-- one pin more
pub pin_more : (u : Device) (m p : ℕ) (old windows : List Bounds) → length windows ≡ 24 → rail_at u p < 24 → Hold (StillTo p u m old) windows → Hold (StillTo (p + 1) u m old) (set windows (rail_at u p) (shared (bounds_at windows (rail_at u p)) (pin_bounds u m p)))
pin_more u m p old windows long there hold = hold_more
    (StillTo p u m old)
    (StillTo (p + 1) u m old)
    windows
    (rail_at u p)
    (pin_bounds u m p)
    long
    there
    hold
    (λ r v q. ((q.0, λ j lt. q.1 j (omega arith)), q.1 p (omega arith)))
    (λ r v s new. let On : ℕ → Type 0 = λ j. rail_at u j ≡ r → Within (pin_bounds u m j) v in (s.0, below_more On p s.1 new))

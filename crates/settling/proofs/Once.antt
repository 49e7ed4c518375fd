-- There is one answer only. Assumes nothing.
use Rattle.std.proofs.Common.{◌≡◌, ℕ, ◌<◌, ◌≤◌, List, length, Ok, Err, sym, refl, ap, ◌∙◌, subst, ⊎_elim, arith}
use Rattle.std.proofs.lemmas.List.{ext_get_or}
use Rattle.std.proofs.lemmas.Bool.{cases_lt, cases_order}
use Rattle.sheets.specs.declared.rows.Demand.{Demand}
use Rattle.platform.specs.declared.parts.Bounds.{Bounds}
use Rattle.platform.specs.Units.{Device, bounds_at, no_bounds, value_of, Within}
use Rattle.settling.specs.declared.answer.Settled.{Settled}
use Rattle.faults.specs.declared.settle.SettleFault.TheVariants.{UnknownRail, NoChoice}
use Rattle.settling.specs.Choices.{Known, InWindow, Same}
use Rattle.settling.specs.Tolls.{Toll, cost}
use Rattle.settling.specs.Settling.{UnknownAt, Settlement, SettledOnce}
use Rattle.settling.proofs.Prefixes.{same_or_before}

abbrev bounds : ℕ → ℕ → Bounds
bounds low high = record { low = low; high = high }

-- bounds that hold the same values, and one at least, are the same
same_bounds : (a b : Bounds) → a.low ≤ a.high → b.low ≤ b.high → ((v : ℕ) → Within a v → Within b v) → ((v : ℕ) → Within b v → Within a v) → a ≡ b
same_bounds a b some_a some_b there back =
    let low : a.low ≡ b.low = omega (arith, there a.low (omega arith, some_a), back b.low (omega arith, some_b)) in
    let high : a.high ≡ b.high = omega (arith, there a.high (some_a, omega arith), back b.high (some_b, omega arith)) in
    ap (λ l. bounds l a.high) low ∙ ap (bounds b.low) high

abbrev built : {C : Type 0} → List ℕ → List Bounds → List ℕ → C → Settled C
built modes windows values cost = record { modes = modes; windows = windows; targets = record { values = values }; cost = cost }

same_built : {C : Type 0} {m m' : List ℕ} {w w' : List Bounds} {v v' : List ℕ} {c c' : C} → m ≡ m' → w ≡ w' → v ≡ v' → c ≡ c' → built m w v c ≡ built m' w' v' c'
same_built p q r s = cc

-- the first place is one place
same_place : (rails : ℕ) (demands : List Demand) (i j : ℕ) → UnknownAt rails demands i → UnknownAt rails demands j → i ≡ j
same_place rails demands i j a b =
    ⊎_elim
    (λ e. e)
    (⊎_elim (λ lt. absurd (omega (arith, a.unknown, b.first i lt))) (λ gt. absurd (omega (arith, b.unknown, a.first j gt))))
    (cases_order i j)

not_known : (rails : ℕ) (demands : List Demand) (i : ℕ) → UnknownAt rails demands i → Known rails demands → ⊥
not_known rails demands i a known = omega (arith, a.unknown, known i a.within)

module _ {C : Type 0} (t : Toll C) (rails : ℕ) (units : List Device) (demands : List Demand) (a b : Settled C) (x : Settlement t rails units demands a) (y : Settlement t rails units demands b) where
  same_modes : a.modes ≡ b.modes
  same_modes =
      let level = x.least.cheapest b.modes y.least.fits in
      let back = y.least.cheapest a.modes x.least.fits in
      let same : Same (length units) a.modes b.modes = ⊎_elim
      (λ s. s)
      (⊎_elim (λ f. absurd (y.least.first a.modes x.least.fits level f)) (λ f. absurd (x.least.first b.modes y.least.fits back f)))
      (same_or_before (length units) a.modes b.modes) in
      ext_get_or 0 a.modes b.modes (x.sized.0 ∙ sym y.sized.0) (λ k h. ⊎_elim (same k) (λ past. x.spare k past ∙ sym (y.spare k past)) (cases_lt k (length units)))

  window_is : (r : ℕ) → r < 24 → bounds_at a.windows r ≡ bounds_at b.windows r
  window_is r h =
      let In : List ℕ → ℕ → Type 0 = λ ms v. InWindow units demands ms r v in
      let v = x.least.fits.meet r h in
      let w = y.least.fits.meet r h in
      let in_a = (x.windows r h v.0).1 v.1 in
      let in_b = (y.windows r h w.0).1 w.1 in
      same_bounds (bounds_at a.windows r) (bounds_at b.windows r) (omega arith) (omega arith)
      (λ u p. (y.windows r h u).1 (subst (λ (ms : List ℕ). In ms u) same_modes ((x.windows r h u).0 p)))
      (λ u p. (x.windows r h u).1 (subst (λ (ms : List ℕ). In ms u) (sym same_modes) ((y.windows r h u).0 p)))

  same_answer : a ≡ b
  same_answer =
      let windows : a.windows ≡ b.windows = ext_get_or no_bounds a.windows b.windows (x.sized.1 ∙ sym y.sized.1) (λ r h. window_is r (omega (arith, x.sized.1))) in
      let value : (r : ℕ) → r < 24 → value_of a.targets.values r ≡ value_of b.targets.values r = λ r h. x.lows r h ∙ ap (λ (w : Bounds). w.low) (window_is r h) ∙ sym (y.lows r h) in
      let values : a.targets.values ≡ b.targets.values = ext_get_or 0 _ _ (x.sized.2 ∙ sym y.sized.2) (λ r h. value r (omega (arith, x.sized.2))) in
      let costs : a.cost ≡ b.cost = x.costs ∙ ap (cost t units) same_modes ∙ sym y.costs in
      same_built same_modes windows values costs

pub settled_once : {C : Type 0} (t : Toll C) → SettledOnce t
settled_once t rails units demands (Ok a) (Ok b) x y = ap Ok (same_answer t rails units demands a b x y)
settled_once t rails units demands (Ok a) (Err (UnknownRail line)) x y = absurd (not_known rails demands y.0 y.1.1 x.known)
settled_once t rails units demands (Ok a) (Err NoChoice) x y = absurd (y.1 a.targets.values x.meets x.rests)
settled_once t rails units demands (Err (UnknownRail line)) (Ok b) x y = absurd (not_known rails demands x.0 x.1.1 y.known)
settled_once t rails units demands (Err (UnknownRail line)) (Err (UnknownRail other)) x y =
    let i = same_place rails demands x.0 y.0 x.1.1 y.1.1 in
    let e : line ≡ other = omega (arith, x.1.0, y.1.0) in
    ap (λ n. Err (UnknownRail n)) e
settled_once t rails units demands (Err (UnknownRail line)) (Err NoChoice) x y = absurd (not_known rails demands x.0 x.1.1 y.0)
settled_once t rails units demands (Err NoChoice) (Ok b) x y = absurd (x.1 b.targets.values y.meets y.rests)
settled_once t rails units demands (Err NoChoice) (Err (UnknownRail line)) x y = absurd (not_known rails demands y.0 y.1.1 x.0)
settled_once t rails units demands (Err NoChoice) (Err NoChoice) x y = refl

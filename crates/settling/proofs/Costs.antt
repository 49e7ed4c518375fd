-- What the laws give of a choice's cost. Assumes nothing.
use Rattle.std.proofs.Common.{◌≡◌, ℕ, zero, suc, ◌+◌, ◌-◌, ◌<◌, ◌≤◌, List, length, sym, refl, ap, subst, ⊎_elim, add-zero, add-suc, add-one, arith}
use Rattle.std.proofs.lemmas.List.{get_or_past}
use Rattle.std.proofs.lemmas.Bool.{cases_lt}
use Rattle.platform.specs.declared.parts.Mode.{Mode}
use Rattle.platform.specs.Units.{Device, unit_at, no_mode, mode_at}
use Rattle.platform.specs.Rules.{Each, Mild}
use Rattle.settling.specs.Choices.{mode_of, Same}
use Rattle.settling.specs.Tolls.{Toll, Laws, Room, cost_to}

-- a mode that the unit lacks draws nothing
pub draws_mild : (u : Device) → Mild u → (m : ℕ) → (mode_at u m).draw ≤ 1000000
draws_mild u mild m =
    let P : Mode → Type 0 = λ mode. mode.draw ≤ 1000000 in
    ⊎_elim (mild m) (λ past. subst P (sym (get_or_past u.modes m no_mode past)) (omega arith)) (cases_lt m (length u.modes))

module _ {C : Type 0} {t : Toll C} (laws : Laws t) where
  module _ (units : List Device) where
    pub cost_same : (n : ℕ) (a b : List ℕ) → Same n a b → cost_to t units n a ≡ cost_to t units n b
    cost_same zero a b same = refl
    cost_same (suc n) a b same =
        let front = cost_same n a b (λ k h. same k (omega arith)) in
        let last = same n (omega arith) in
        cc

    pub cost_next : (n : ℕ) (a : List ℕ) → t.plus (cost_to t units n a) (t.of (mode_at (unit_at units n) (mode_of a n))) ≡ cost_to t units (n + 1) a
    cost_next n a = ap (λ k. cost_to t units k a) (sym (add-one n))

    cost_grows : (n j : ℕ) (a : List ℕ) → t.AtMost (cost_to t units n a) (cost_to t units (n + j) a)
    cost_grows n zero a = rw add-zero (laws.reflexive (cost_to t units n a))
    cost_grows n (suc j) a = rw add-suc (laws.transitive _ _ _ (cost_grows n j a) (laws.never_less _ _))

    -- more units never lessen a cost
    pub cost_rises : (n k : ℕ) → n ≤ k → (a : List ℕ) → t.AtMost (cost_to t units n a) (cost_to t units k a)
    cost_rises n k h a =
        let e : n + (k - n) ≡ k = omega arith in
        subst (λ (x : ℕ). t.AtMost (cost_to t units n a) (cost_to t units x a)) e (cost_grows n (k - n) a)

    pub cost_made : Each Mild units → (n : ℕ) → n ≤ length units → (a : List ℕ) → t.Made n (cost_to t units n a)
    cost_made mild zero h a = laws.made_nothing
    cost_made mild (suc n) h a =
        let one = laws.made_of _ (draws_mild (unit_at units n) (mild n (omega arith)) (mode_of a n)) in
        subst (λ (x : ℕ). t.Made x (cost_to t units (suc n) a)) (add-one n) (laws.made_plus n 1 _ _ (cost_made mild n (omega arith) a) one)

    -- there is room for the next unit
    pub cost_room : Each Mild units → length units ≤ 24 → (n : ℕ) → n < length units → (a : List ℕ) (m : ℕ) → Room t (cost_to t units n a) (t.of (mode_at (unit_at units n) m))
    cost_room mild few n lt a m = (n, (1, (omega arith, (cost_made mild n (omega arith) a, laws.made_of _ (draws_mild (unit_at units n) (mild n lt) m)))))

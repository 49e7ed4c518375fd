-- Where the search stands with one unit more. Assumes nothing.
use Rattle.std.proofs.Common.{◌≡◌, ℕ, ◌+◌, ◌<◌, List, length, get_or, vec_items, sym, ap, ◌∙◌, subst, add-one, arith, rules, length-set, get_or-set_other, get_or-set_same, below_more}
use Rattle.std.proofs.lemmas.List.{get_or_default}
use Rattle.platform.specs.declared.parts.Mode.{Mode}
use Rattle.sheets.specs.declared.rows.Kind.{Kind}
use Rattle.sheets.specs.declared.rows.Demand.{Demand}
use Rattle.platform.specs.declared.platform.Platform.{Platform}
use Rattle.platform.specs.declared.unit.Unit.{Unit}
use Rattle.platform.specs.Devices.{device, devices}
use Rattle.platform.specs.Rules.{Sound}
use Rattle.platform.proofs.Checking.{unit_is, as_many}
use Rattle.platform.specs.Units.{Device, unit_at, no_mode, mode_at, Rests}
use Rattle.settling.specs.declared.draft.Draft.{Draft}
use Rattle.settling.specs.Choices.{units_of, OfPlatform, mode_of, Allows, InWindowTo, Same}
use Rattle.settling.specs.Tolls.{Toll, Laws, Room, cost_to}
use Rattle.settling.specs.Searching.{Extends, Stands}
use Rattle.settling.proofs.Costs.{cost_same, cost_room}

-- a platform keeps every rule
pub sound : (platform : Platform) → Sound platform.rails (units_of platform)
sound p = search rules

-- u is the platform's unit at n
pub record Next (platform : Platform) (n : ℕ) (u : Unit) : Type 0 where
  pub sound : OfPlatform (units_of platform)
  pub within : n < length (units_of platform)
  pub is : unit_at (units_of platform) n ≡ device u

pub next_unit : (platform : Platform) (us : List Unit) (n : ℕ) (u : Unit) → us ≡ vec_items platform.units → n < length us → u ≡ get_or us n u → Next platform n u
next_unit platform us n u all lt is =
    let P : List Unit → Type 0 = λ us. (n < length (devices us)) × (unit_at (devices us) n ≡ device u) in
    let there = subst P all (omega (arith, as_many us), unit_is us n u lt is) in
    record { sound = (_, sound platform); within = there.0; is = there.1 }

-- the kind of the mode that the unit has at m
pub kind_read : (u : Unit) (ms : List Mode) (m : ℕ) (d : Mode) (k : Kind) → ms ≡ vec_items u.modes → m < length ms → (get_or ms m d).kind ≡ k → (mode_at (device u) m).kind ≡ k
kind_read u ms m d k all lt is =
    let read = get_or_default ms m d no_mode lt in
    cc

-- the next unit has its place among the modes, and there is room for its cost
module _ {C : Type 0} {t : Toll C} {units : List Device} {demands : List Demand} {n : ℕ} {d : Draft C} (sound : OfPlatform units) (stands : Stands t units demands n d) (lt : n < length units) where
  pub place : n < length d.modes
  place = omega (arith, sound.1.units_counted.1, stands.sized.0)

  pub room_more : Laws t → (m : ℕ) → Room t d.cost (t.of (mode_at (unit_at units n) m))
  room_more laws m =
      let of_next = t.of (mode_at (unit_at units n) m) in
      subst (λ (x : C). Room t x of_next) (sym stands.cost) (cost_room laws units sound.1.mild sound.1.units_counted.1 n lt d.modes m)

-- e goes on from d with unit n in mode m
module _ {C : Type 0} {t : Toll C} {units : List Device} {demands : List Demand} {n m : ℕ} {d e : Draft C} (laws : Laws t) (stands : Stands t units demands n d) (extends : Extends t (unit_at units n) n m d e) (long : n < length d.modes) where
  other : (k : ℕ) → (k ≡ n → ⊥) → mode_of e.modes k ≡ mode_of d.modes k
  other k ne = ap (λ (ms : List ℕ). mode_of ms k) extends.modes ∙ get_or-set_other d.modes n k m 0 ne

  same : Same n e.modes d.modes
  same k h = other k (λ e. omega arith)

  here : mode_of e.modes n ≡ m
  here = ap (λ (ms : List ℕ). mode_of ms n) extends.modes ∙ get_or-set_same d.modes n m 0 long

  in_more : (r v : ℕ) → InWindowTo n units demands d.modes r v → Allows (unit_at units n) m r v → InWindowTo (n + 1) units demands e.modes r v
  in_more r v w allows =
      let P : ℕ → Type 0 = λ k. Allows (unit_at units k) (mode_of e.modes k) r v in
      (w.0, below_more P n (λ k h. subst (λ (x : ℕ). Allows (unit_at units k) x r v) (sym (same k h)) (w.1 k h)) (subst (λ (x : ℕ). Allows (unit_at units n) x r v) (sym here) allows))

  in_less : (r v : ℕ) → InWindowTo (n + 1) units demands e.modes r v → InWindowTo n units demands d.modes r v × Allows (unit_at units n) m r v
  in_less r v w = (
    (w.0, λ k h. subst (λ (x : ℕ). Allows (unit_at units k) x r v) (same k h) (w.1 k (omega arith))),
    subst (λ (x : ℕ). Allows (unit_at units n) x r v) here (w.1 n (omega arith)),
  )

  pub stands_more : Rests (unit_at units n) m → Stands t units demands (n + 1) e
  stands_more rests =
      let P : ℕ → Type 0 = λ k. Rests (unit_at units k) (mode_of e.modes k) in
      let front = cost_same laws units n e.modes d.modes same in
      let more = ap (λ k. cost_to t units k e.modes) (add-one n) in
      let last = here in
      let added = extends.cost in
      let so_far = stands.cost in
      record {
        rest = below_more P n (λ k h. subst (λ (x : ℕ). Rests (unit_at units k) x) (sym (same k h)) (stands.rest k h)) (subst (λ (x : ℕ). Rests (unit_at units n) x) (sym here) rests);
        spare = λ k h. other k (λ e. omega arith) ∙ stands.spare k (omega arith);
        windows = λ r h v. (
          λ w. let old = (extends.windows r h v).0 w in in_more r v ((stands.windows r h v).0 old.0) old.1,
          λ w. let old = in_less r v w in (extends.windows r h v).1 ((stands.windows r h v).1 old.0, old.1),
        );
        cost = cc;
        sized = (ap length extends.modes ∙ length-set d.modes n m ∙ stands.sized.0, extends.sized);
      }

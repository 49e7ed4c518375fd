-- What each step of the search does to what is found. Assumes nothing.
use Rattle.std.proofs.Common.{◌≡◌, ℕ, ◌+◌, ◌<◌, ◌≤◌, List, length, set, Some, None, Option, sym, refl, ◌∙◌, subst, inl, inr, ⊎_elim, arith, below_more}
use Rattle.std.proofs.lemmas.Bool.{cases_lt}
use Rattle.sheets.specs.declared.rows.Demand.{Demand}
use Rattle.sheets.specs.declared.rows.Kind.{Kind}
use Rattle.platform.specs.Units.{Device, unit_at, mode_at}
use Rattle.settling.specs.declared.draft.Draft.{Draft}
use Rattle.settling.specs.Choices.{mode_of, Allows, InWindowTo, Fits, Same}
use Rattle.settling.specs.Tolls.{Toll, Laws, cost_to, cost}
use Rattle.settling.specs.Narrowing.{Open}
use Rattle.settling.specs.Searching.{Reached, Earlier, NotAfter, Stands, Found, Covers, Searched, Tried}
use Rattle.settling.proofs.Costs.{cost_same, cost_rises}
use Rattle.settling.proofs.Prefixes.{goes_on, next_is, before_back, before_next, never_before}

-- no choice that fits goes on with a pass mode
pub not_rest : (units : List Device) (demands : List Demand) (n m : ℕ) (modes : List ℕ) → n < length units → n < length modes → (mode_at (unit_at units n) m).kind ≡ Kind.Pass → (c : List ℕ) → Fits units demands c → Same (n + 1) c (set modes n m) → ⊥
not_rest units demands n m modes lt long pass c fits same =
    let at = same n (omega arith) in
    let here = next_is modes n m long in
    let rest = (fits.rest n lt).1 in
    let both : (mode_at (unit_at units n) (mode_of c n)).kind ≡ Kind.Pass = cc in
    let z : ◌≡◌ {A = ℕ} 0 1 = cc in
    omega arith

-- what is found keeps its place as the next mode rises
module _ {C : Type 0} (n : ℕ) (modes : List ℕ) (long : n < length modes) where
  earlier_next : (m : ℕ) (r : Option (Draft C)) → NotAfter (n + 1) r (set modes n m) → Earlier (n + 1) r (set modes n (m + 1))
  earlier_next m None place = tt
  earlier_next m (Some s) place =
      let up : mode_of (set modes n m) n < mode_of (set modes n (m + 1)) n = omega (arith, next_is modes n m long, next_is modes n (m + 1) long) in
      before_next n modes (set modes n m) (goes_on modes n m) (set modes n (m + 1)) (goes_on modes n (m + 1)) up s.modes place

  earlier_back : (m : ℕ) (r : Option (Draft C)) → Earlier (n + 1) r (set modes n m) → NotAfter n r modes
  earlier_back m None place = tt
  earlier_back m (Some s) place = before_back n modes (set modes n m) (goes_on modes n m) s.modes place

-- what the dearer one covered is covered still
keeps_found : {C : Type 0} {t : Toll C} → Laws t → (units : List Device) (demands : List Demand) (d : Draft C) (best : Option (Draft C)) → (Reached t best d.cost → ⊥) → (c : List ℕ) → Covers t units demands best c → Covers t units demands (Some d) c
keeps_found laws units demands d None short c covered = absurd covered
keeps_found laws units demands d (Some s) short c covered =
    ⊎_elim
    (λ h. absurd (short h))
    (λ h. (laws.transitive _ _ _ h covered.0, λ tie _. short (laws.transitive _ _ _ covered.0 tie)))
    (laws.total s.cost d.cost)

module _ {C : Type 0} {t : Toll C} {units : List Device} {demands : List Demand} where
  -- nothing that begins so fits
  pub skipped : {n : ℕ} {modes : List ℕ} (best : Option (Draft C)) → Found t units demands best → Earlier n best modes → ((c : List ℕ) → Fits units demands c → Same n c modes → ⊥) → Searched t units demands n modes best best
  skipped None found early none = record { found = found; place = tt; covers = λ c fits same. absurd (none c fits same); keeps = λ c h. h }
  skipped (Some s) found early none = record { found = found; place = inl early; covers = λ c fits same. absurd (none c fits same); keeps = λ c h. h }

  -- no choice that fits begins as a draft with an empty window
  pub closed : {n : ℕ} {d : Draft C} → n ≤ length units → Stands t units demands n d → (Open d.windows → ⊥) → (c : List ℕ) → Fits units demands c → Same n c d.modes → ⊥
  closed {n} {d} h stands shut c fits same =
      shut
      (λ r lt.
      let some = fits.meet r lt in
      let v = some.0 in
      let at : InWindowTo n units demands d.modes r v = (some.1.0, λ k below. subst (λ (m : ℕ). Allows (unit_at units k) m r v) (same k below) (some.1.1 k (omega arith))) in
      let w = (stands.windows r lt v).1 at in
      omega arith)

  -- what is found costs no more than the draft: nothing that begins so is better
  pub pruned : Laws t → {n : ℕ} {d : Draft C} (best : Option (Draft C)) → n ≤ length units → Stands t units demands n d → Found t units demands best → Earlier n best d.modes → Reached t best d.cost → Searched t units demands n d.modes best best
  pruned laws None h stands found early r = absurd r
  pruned laws {n} {d} (Some s) h stands found early r = record {
    found = found;
    place = inl early;
    covers = λ c fits same.
        let e : d.cost ≡ cost_to t units n c = stands.cost ∙ sym (cost_same laws units n c d.modes same) in
        let up = laws.transitive _ _ _ (subst (λ (x : C). t.AtMost s.cost x) e r) (cost_rises laws units n (length units) h c) in
        (up, λ _ b. never_before n (length units) d.modes s.modes c early same b);
    keeps = λ c h. h;
  }

  -- every unit has its mode, and what was found costs more
  pub leaf : Laws t → {n : ℕ} {d : Draft C} (best : Option (Draft C)) → n ≡ length units → Stands t units demands n d → Open d.windows → (Reached t best d.cost → ⊥) → Searched t units demands n d.modes best (Some d)
  leaf laws {n} {d} best e stands some short =
      let full = subst (λ (k : ℕ). Stands t units demands k d) e stands in
      record {
        found = (full, some);
        place = inr (λ k h. refl);
        covers = λ c fits same.
            let same_cost : d.cost ≡ cost t units c = full.cost ∙ sym (cost_same laws units (length units) c d.modes (λ k h. same k (omega arith))) in
            (subst (λ (x : C). t.AtMost d.cost x) same_cost (laws.reflexive d.cost), λ _ b. omega (arith, b.1.1.1, same b.0 (omega (arith, b.1.0))));
        keeps = keeps_found laws units demands d best short;
      }

  -- the loop over the modes of unit n
  module _ {n : ℕ} {modes : List ℕ} (long : n < length modes) where
    pub tried_more : {m : ℕ} {old best r : Option (Draft C)} → Tried t units demands n m modes old best → Searched t units demands (n + 1) (set modes n m) best r → Tried t units demands n (m + 1) modes old r
    tried_more {m} {old} {best} {r} tried searched = record {
      found = searched.found;
      place = earlier_next n modes long m r searched.place;
      covers = λ c fits same below. ⊎_elim
          (λ less. searched.keeps c (tried.covers c fits same less))
          (λ more.
          let P : ℕ → Type 0 = λ k. mode_of c k ≡ mode_of (set modes n m) k in
          let e : mode_of c n ≡ m = omega arith in
          searched.covers c fits (below_more P n (λ k h. same k h ∙ sym (goes_on modes n m k h)) (e ∙ sym (next_is modes n m long))))
          (cases_lt (mode_of c n) m);
      keeps = λ c h. searched.keeps c (tried.keeps c h);
    }

    pub tried_all : {m : ℕ} {old r : Option (Draft C)} → n < length units → length (unit_at units n).modes ≤ m → Tried t units demands n m modes old r → Searched t units demands n modes old r
    tried_all {m} {old} {r} lt h tried = record {
      found = tried.found;
      place = earlier_back n modes long m r tried.place;
      covers = λ c fits same. tried.covers c fits same (omega (arith, (fits.rest n lt).0));
      keeps = tried.keeps;
    }

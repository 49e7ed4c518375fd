-- Orders on the small board, and which sets of its rails can be moved first. Assumes nothing.
use Rattle.std.proofs.Common.{◌≡◌, ℕ, suc, ◌∙◌, List, [], ◌∷◌, get_or, Err, sym, refl, subst, inl, inr, ⊎_elim, arith, lit<, lit≤}
use Rattle.std.proofs.lemmas.List.{get_or_past}
use Rattle.platform.specs.Units.{value_of}
use Rattle.boards.specs.Meaning.{Between}
use Rattle.histories.specs.Rails.{after}
use Rattle.histories.specs.Spans.{Safe}
use Rattle.openings.specs.Openings.{SafeScript}
use Rattle.openings.specs.Orders.{Among, singly}
use Rattle.openings.specs.declared.end.End.TheVariants.{First, Last}
use Rattle.ordering.specs.declared.fault.OrderFault.TheVariants.{Restless, ShortTable}
use Rattle.ordering.specs.Answers.{Ordered}
use Rattle.ordering.specs.Sets.{Changes, InSet, Lists, CanMove, Tells, Finished, SafeOrder}
use Rattle.cases.specs.Board.{small_board}
use Rattle.cases.specs.Moves.{off, on, supply_between, load_between, switching_on, staying_off}
use Rattle.cases.proofs.Few.{one, two, four}
use Rattle.cases.proofs.Rests.{rests_off, rests_on, supply_unrested, load_unrested}
use Rattle.cases.proofs.Units.{safe_where, regulator_out}

-- both rails change
changes_0 : Changes switching_on 0
changes_0 = (lit< tt, λ e. let z : 0 ≡ 11400 = e in omega (arith, z))

changes_1 : Changes switching_on 1
changes_1 = (lit< tt, λ e. let z : 0 ≡ 1650 = e in omega (arith, z))

-- rail 0 on its way, and come there
pub rail_0_moves : (rest : List ℕ) → Safe 2 small_board.units (after (value_of off) (singly (value_of on) (0 ∷ rest)) 1)
rail_0_moves rest = safe_where _ (λ mix h.
    let a : Between 0 11400 (value_of mix 0) = h 0 (lit< tt) in
    let b : value_of mix 1 ≡ 0 = h 1 (lit< tt) in
    record { fed = omega (arith, a.1); regulated = inl (omega (arith, b)); loaded = omega (arith, b) })

rail_0_there : (rest : List ℕ) → Safe 2 small_board.units (after (value_of off) (singly (value_of on) (0 ∷ rest)) 2)
rail_0_there rest = safe_where _ (λ mix h.
    let a : value_of mix 0 ≡ 11400 = h 0 (lit< tt) in
    let b : value_of mix 1 ≡ 0 = h 1 (lit< tt) in
    record { fed = omega (arith, a); regulated = inl (omega (arith, b)); loaded = omega (arith, b) })

-- rail 1 on its way after it, and come there
rail_1_moves : Safe 2 small_board.units (after (value_of off) (singly (value_of on) (0 ∷ 1 ∷ [])) 3)
rail_1_moves = safe_where _ (λ mix h.
    let a : value_of mix 0 ≡ 11400 = h 0 (lit< tt) in
    let b : Between 0 1650 (value_of mix 1) = h 1 (lit< tt) in
    record { fed = omega (arith, a); regulated = inr (omega (arith, a)); loaded = omega (arith, b.1) })

rail_1_there : Safe 2 small_board.units (after (value_of off) (singly (value_of on) (0 ∷ 1 ∷ [])) 4)
rail_1_there = safe_where _ (λ mix h.
    let a : value_of mix 0 ≡ 11400 = h 0 (lit< tt) in
    let b : value_of mix 1 ≡ 1650 = h 1 (lit< tt) in
    record { fed = omega (arith, a); regulated = inr (omega (arith, a)); loaded = omega (arith, b) })

safe_0 : SafeScript 2 small_board.units (value_of off) (singly (value_of on) (0 ∷ []))
safe_0 = two (λ k. Safe 2 small_board.units (after (value_of off) (singly (value_of on) (0 ∷ [])) (suc k))) (rail_0_moves []) (rail_0_there [])

pub safe_0_1 : SafeScript 2 small_board.units (value_of off) (singly (value_of on) (0 ∷ 1 ∷ []))
safe_0_1 = four (λ k. Safe 2 small_board.units (after (value_of off) (singly (value_of on) (0 ∷ 1 ∷ [])) (suc k))) (rail_0_moves (1 ∷ [])) (rail_0_there (1 ∷ [])) rail_1_moves rail_1_there

none_distinct : Among 0 (1 ∷ []) → ⊥
none_distinct a = ⊎_elim (λ (e : 0 ≡ 1). omega (arith, e)) (λ f. f) a

pub order : SafeOrder small_board.units switching_on (0 ∷ 1 ∷ [])
order = record {
  changed = record {
    once = (none_distinct, (λ f. f, tt));
    only = λ r a. ⊎_elim
        (λ (e : r ≡ 0). subst (Changes switching_on) (sym e) changes_0)
        (λ more. ⊎_elim (λ (e : r ≡ 1). subst (Changes switching_on) (sym e) changes_1) (λ f. absurd f) more)
        a;
    every = λ r lt ne. two (λ r. Among r (0 ∷ 1 ∷ [])) (inl refl) (inr (inl refl)) r lt;
  };
  safe = safe_0_1;
}

-- no rail is in the empty set
can_0 : CanMove small_board.units switching_on 0
can_0 = record {
  order = [];
  lists = record {
    once = tt;
    only = λ r a. absurd a;
    every = λ r h. two (λ r. InSet switching_on 0 r → Among r []) (λ h. let z : 0 ≡ 1 = h.1 in omega (arith, z)) (λ h. let z : 0 ≡ 1 = h.1 in omega (arith, z)) r h.0.0 h;
  };
  safe = λ k lt. absurd (omega (arith, lt));
}

can_1 : CanMove small_board.units switching_on 1
can_1 = record {
  order = 0 ∷ [];
  lists = record {
    once = (λ f. f, tt);
    only = λ r a. ⊎_elim (λ (e : r ≡ 0). subst (InSet switching_on 1) (sym e) (changes_0, refl)) (λ f. absurd f) a;
    every = λ r h. two (λ r. InSet switching_on 1 r → Among r (0 ∷ [])) (λ _. inl refl) (λ h. let z : 0 ≡ 1 = h.1 in absurd (omega (arith, z))) r h.0.0 h;
  };
  safe = safe_0;
}

can_3 : CanMove small_board.units switching_on 3
can_3 = record {
  order = 0 ∷ 1 ∷ [];
  lists = record {
    once = (none_distinct, (λ f. f, tt));
    only = λ r a. ⊎_elim
        (λ (e : r ≡ 0). subst (InSet switching_on 3) (sym e) (changes_0, refl))
        (λ more. ⊎_elim (λ (e : r ≡ 1). subst (InSet switching_on 3) (sym e) (changes_1, refl)) (λ f. absurd f) more)
        a;
    every = λ r h. two (λ r. Among r (0 ∷ 1 ∷ [])) (inl refl) (inr (inl refl)) r h.0.0;
  };
  safe = safe_0_1;
}

-- rail 1 cannot leave 0 first
stuck : (rest : List ℕ) → Safe 2 small_board.units (after (value_of off) (singly (value_of on) (1 ∷ rest)) 1) → ⊥
stuck rest safe =
    regulator_out (safe (0 ∷ 1 ∷ []) (two _ refl (lit≤ tt, lit≤ tt)) 1 (lit< tt))

only_1 : (r : ℕ) → InSet switching_on 2 r → r ≡ 1
only_1 r h = two (λ r. InSet switching_on 2 r → r ≡ 1) (λ h. let z : 0 ≡ 1 = h.1 in absurd (omega (arith, z))) (λ _. refl) r h.0.0 h

not_2 : (order : List ℕ) → Lists switching_on 2 order → SafeScript 2 small_board.units (value_of off) (singly (value_of on) order) → ⊥
not_2 [] l s = l.every 1 (changes_1, refl)
not_2 (r ∷ rest) l s =
    stuck rest (subst (λ (q : ℕ). Safe 2 small_board.units (after (value_of off) (singly (value_of on) (q ∷ rest)) 1)) (only_1 r (l.only r (inl refl))) (s 0 (omega arith)))

pub table : Finished small_board.units switching_on (0 ∷ 0 ∷ 0 ∷ 0 ∷ []) (1 ∷ 1 ∷ 0 ∷ 1 ∷ [])
table = record {
  told = λ s lt. four (λ s. Tells (get_or (1 ∷ 1 ∷ 0 ∷ 1 ∷ []) s 0) (CanMove small_board.units switching_on s))
      (inl (refl, can_0)) (inl (refl, can_1)) (inr (refl, λ c. not_2 c.order c.lists c.safe)) (inl (refl, can_3)) s lt;
  later = λ s le. get_or_past (1 ∷ 1 ∷ 0 ∷ 1 ∷ []) s 0 le ∙ sym (get_or_past (0 ∷ 0 ∷ 0 ∷ 0 ∷ []) s 0 le);
}

pub still_order : SafeOrder small_board.units staying_off []
still_order = record {
  changed = record {
    once = tt;
    only = λ r a. absurd a;
    every = λ r lt ne. ne (two (λ r. staying_off.first r ≡ staying_off.last r) refl refl r lt);
  };
  safe = λ k lt. absurd (omega (arith, lt));
}

still_0 : CanMove small_board.units staying_off 0
still_0 = record {
  order = [];
  lists = record { once = tt; only = λ r a. absurd a; every = λ r h. still_order.changed.every r h.0.0 h.0.1 };
  safe = still_order.safe;
}

pub still_table : Finished small_board.units staying_off (0 ∷ []) (1 ∷ [])
still_table = record {
  told = λ s lt. one (λ s. Tells (get_or (1 ∷ []) s 0) (CanMove small_board.units staying_off s)) (inl (refl, still_0)) s lt;
  later = λ s le. get_or_past (1 ∷ []) s 0 le ∙ sym (get_or_past (0 ∷ []) s 0 le);
}

pub no_first : Ordered small_board supply_between on (7 ∷ []) (7 ∷ []) (Err (Restless First 0))
no_first = (supply_unrested, refl)

pub no_last : Ordered small_board off load_between (7 ∷ []) (7 ∷ []) (Err (Restless Last 2))
no_last = (rests_off, (load_unrested, refl))

pub short : Ordered small_board off on (7 ∷ 7 ∷ 7 ∷ []) (7 ∷ 7 ∷ 7 ∷ []) (Err ShortTable)
short = (rests_off, (rests_on, (lit≤ tt, (lit< tt, refl))))

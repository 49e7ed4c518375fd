-- The two costs and their laws. Assumes nothing.
use Rattle.std.specs.Prelude.{◌≡◌, ℕ, ◌+◌, ◌*◌, ◌≤◌, max, refl}
use Rattle.std.proofs.Common.{ap, inl, inr, ⊎_elim, arith}
use Rattle.std.proofs.lemmas.Bool.{cases_lt, cases_order}
use Rattle.settling.specs.declared.cost.Draw.{Draw}
use Rattle.settling.specs.declared.cost.HeatThenDraw.{HeatThenDraw}
use Rattle.settling.specs.Tolls.{Toll, Laws}

abbrev pub of_draw : ℕ → Draw
of_draw n = record { milliwatts = n }

-- the sum of draws
abbrev pub draw_toll : Toll Draw
draw_toll = record {
  nothing = of_draw 0;
  of = λ m. of_draw m.draw;
  plus = λ a b. of_draw (a.milliwatts + b.milliwatts);
  AtMost = λ a b. a.milliwatts ≤ b.milliwatts;
  Made = λ k c. c.milliwatts ≤ k * 1000000;
}

pub draw_laws : Laws draw_toll
draw_laws = record {
  reflexive = λ a. omega arith;
  transitive = λ a b c p q. omega arith;
  antisymmetric = λ a b p q. ap of_draw (omega arith);
  total = λ a b. ⊎_elim (λ h. inl (omega arith)) inr (cases_lt a.milliwatts b.milliwatts);
  never_less = λ a c. omega arith;
  absent = refl;
  made_nothing = omega arith;
  made_of = λ m h. omega arith;
  made_plus = λ j k a b p q. omega arith;
}

abbrev pub pair : ℕ → ℕ → HeatThenDraw
pair h d = record { heat = h; draw = d }

-- the greatest heat class with the sum of draws: no hotter, and no more drawn where the heat is the same
abbrev pub heat_toll : Toll HeatThenDraw
heat_toll = record {
  nothing = pair 0 0;
  of = λ m. pair m.heat m.draw;
  plus = λ a b. pair (max a.heat b.heat) (a.draw + b.draw);
  AtMost = λ a b. (a.heat ≤ b.heat) × (a.heat ≡ b.heat → a.draw ≤ b.draw);
  Made = λ k c. c.draw ≤ k * 1000000;
}

same_pair : {h h' d d' : ℕ} → h ≡ h' → d ≡ d' → pair h d ≡ pair h' d'
same_pair p q = cc

pub heat_laws : Laws heat_toll
heat_laws = record {
  reflexive = λ a. (omega arith, λ h. omega arith);
  transitive = λ a b c p q. (omega (arith, p.0, q.0), λ h. omega (arith, p.1 (omega (arith, p.0, q.0)), q.1 (omega (arith, p.0, q.0))));
  antisymmetric = λ a b p q.
      let same : a.heat ≡ b.heat = omega (arith, p.0, q.0) in
      let back : b.heat ≡ a.heat = omega arith in
      same_pair same (omega (arith, p.1 same, q.1 back));
  total = λ a b. ⊎_elim
      (λ e. ⊎_elim (λ lt. inl (omega arith, λ h. omega arith)) (λ ge. inr (omega arith, λ h. omega arith)) (cases_lt a.draw b.draw))
      (⊎_elim (λ lt. inl (omega arith, λ h. omega arith)) (λ gt. inr (omega arith, λ h. omega arith)))
      (cases_order a.heat b.heat);
  never_less = λ a c. (omega arith, λ h. omega arith);
  absent = refl;
  made_nothing = omega arith;
  made_of = λ m h. omega arith;
  made_plus = λ j k a b p q. omega arith;
}

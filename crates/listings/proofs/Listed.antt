-- The listing of an input has one outcome. Assumes nothing.
use Rattle.std.proofs.Common.{◌≡◌, ℕ, ◌+◌, List, ◌++◌, take, drop, Ok, Err, Result, sym, refl, ap, ◌∙◌, subst, inl, inr, ⊎_elim, arith}
use Rattle.std.proofs.lemmas.Bool.{cases_order}
use Rattle.answers.specs.Sequels.{One, Only}
use Rattle.answers.proofs.Sequels.{one_then, one_answers, only_one}
use Rattle.text.specs.Written.{Parts}
use Rattle.faults.specs.declared.platform.PlatformFault.{PlatformFault}
use Rattle.platform.specs.Inquiries.{Asked, Inquires}
use Rattle.platform.proofs.Asking.{one_inquiry}
use Rattle.settling.specs.declared.answer.Settled.{Settled}
use Rattle.settling.specs.declared.cost.Draw.{Draw}
use Rattle.settling.specs.declared.cost.HeatThenDraw.{HeatThenDraw}
use Rattle.faults.specs.declared.settle.SettleFault.{SettleFault}
use Rattle.settling.specs.Sums.{draw_toll, heat_toll}
use Rattle.settling.specs.Settling.{Settles}
use Rattle.settling.proofs.Once.{settled_once}
use Rattle.faults.specs.declared.listing.ListingFault.{ListingFault}
use Rattle.faults.specs.declared.listing.ListingFault.TheVariants.{Input, Parts as Few, Platform, Settle, Memory}
use Rattle.sheets.specs.Fours.{Four}
use Rattle.listings.specs.Inputs.{Cuts, Cutting}
use Rattle.listings.specs.Texts.{settled_text}
use Rattle.listings.specs.Listings.{as_is, ListsAsked, Lists}

parts_same : {bs front back other rest : List ℕ} → Parts bs front back → Parts bs other rest → (front ≡ other) × (back ≡ rest)
parts_same {bs = bs} p q =
    let place : p.place ≡ q.place = ⊎_elim (λ e. e) (⊎_elim (λ lt. absurd (q.first p.place lt p.gap)) (λ gt. absurd (p.first q.place gt q.gap))) (cases_order p.place q.place) in
    (p.before ∙ ap (λ k. take k bs) place ∙ sym q.before, p.after ∙ ap (λ k. drop (k + 1) bs) place ∙ sym q.after)

cuts_same : (input : List ℕ) (a b : Four) → Cuts input a → Cuts input b → a ≡ b
cuts_same input a b h g =
    let one = parts_same h.first g.first in
    let two = parts_same (subst (λ l. Parts l a.modes h.after_modes) one.1 h.second) g.second in
    let three = parts_same (subst (λ l. Parts l a.bounds a.demands) two.1 h.third) g.third in
    λ i. record { pins = one.0 i; modes = two.0 i; bounds = three.0 i; demands = three.1 i }

one_cutting : (input : List ℕ) → One (Cutting input)
one_cutting input (Ok a) (Ok b) h g = ap Ok (cuts_same input a b h.1 g.1)
one_cutting input (Ok a) (Err Input) h g = absurd (omega (arith, h.0))
one_cutting input (Ok a) (Err Few) h g = absurd (g.1 a h.1)
one_cutting input (Ok a) (Err (Platform e)) h g = absurd g
one_cutting input (Ok a) (Err (Settle e)) h g = absurd g
one_cutting input (Ok a) (Err Memory) h g = absurd g
one_cutting input (Err Input) (Ok b) h g = absurd (omega (arith, g.0))
one_cutting input (Err Input) (Err Input) h g = refl
one_cutting input (Err Input) (Err Few) h g = absurd (omega (arith, g.0))
one_cutting input (Err Input) (Err (Platform e)) h g = absurd g
one_cutting input (Err Input) (Err (Settle e)) h g = absurd g
one_cutting input (Err Input) (Err Memory) h g = absurd g
one_cutting input (Err Few) (Ok b) h g = absurd (h.1 b g.1)
one_cutting input (Err Few) (Err Input) h g = absurd (omega (arith, h.0))
one_cutting input (Err Few) (Err Few) h g = refl
one_cutting input (Err Few) (Err (Platform e)) h g = absurd g
one_cutting input (Err Few) (Err (Settle e)) h g = absurd g
one_cutting input (Err Few) (Err Memory) h g = absurd g
one_cutting input (Err (Platform e)) q h g = absurd h
one_cutting input (Err (Settle e)) q h g = absurd h
one_cutting input (Err Memory) q h g = absurd h

one_asked : (q : Asked) → One (ListsAsked q)
one_asked q =
    one_then (Settles draw_toll q.model.rails q.model.units q.demands) Settle _ (settled_once draw_toll q.model.rails q.model.units q.demands) (λ d.
    one_then (Settles heat_toll q.model.rails q.model.units q.demands) Settle _ (settled_once heat_toll q.model.rails q.model.units q.demands) (λ h.
    one_answers (settled_text q.model d ++ settled_text q.model h)))

one_listing : (input : List ℕ) → One (Lists input)
one_listing input =
    one_then (Cutting input) as_is _ (one_cutting input) (λ four.
    one_then (Inquires four.pins four.modes four.bounds four.demands) Platform ListsAsked (one_inquiry four.pins four.modes four.bounds four.demands) one_asked)

-- what is asked
module _ (q : Asked) where
  only_asked : (r : Result (List ℕ) ListingFault) → ListsAsked q r → Only (ListsAsked q) r
  only_asked = only_one (ListsAsked q) (one_asked q)

  abbrev ByDraw : Result (Settled Draw) SettleFault → Type 0
  ByDraw = Settles draw_toll q.model.rails q.model.units q.demands

  abbrev ByHeat : Result (Settled HeatThenDraw) SettleFault → Type 0
  ByHeat = Settles heat_toll q.model.rails q.model.units q.demands

  pub at_draw : (f : SettleFault) → ByDraw (Err f) → Only (ListsAsked q) (Err (Settle f))
  at_draw f h = only_asked (Err (Settle f)) (inl (f, (h, refl)))

  module _ (d : Settled Draw) (draw : ByDraw (Ok d)) where
    pub at_heat : (f : SettleFault) → ByHeat (Err f) → Only (ListsAsked q) (Err (Settle f))
    at_heat f h = only_asked (Err (Settle f)) (inr (d, (draw, inl (f, (h, refl)))))

    pub asked_text : (h : Settled HeatThenDraw) → ByHeat (Ok h) → (text : List ℕ) → text ≡ settled_text q.model d ++ settled_text q.model h → Only (ListsAsked q) (Ok text)
    asked_text h heat text is = only_asked (Ok text) (d, (draw, (h, (heat, ap Ok is))))

-- the input
module _ (input : List ℕ) where
  only_listing : (r : Result (List ℕ) ListingFault) → Lists input r → Only (Lists input) r
  only_listing = only_one (Lists input) (one_listing input)

  pub at_input : (f : ListingFault) → Cutting input (Err f) → Only (Lists input) (Err f)
  at_input f h = only_listing (Err f) (inl (f, (h, refl)))

  module _ (four : Four) (cut : Cutting input (Ok four)) where
    pub at_inquiry : (f : PlatformFault) → Only (Inquires four.pins four.modes four.bounds four.demands) (Err f) → Only (Lists input) (Err (Platform f))
    at_inquiry f h = only_listing (Err (Platform f)) (inr (four, (cut, inl (f, (h.0, refl)))))

    module _ (q : Asked) (asked : Only (Inquires four.pins four.modes four.bounds four.demands) (Ok q)) where
      pub at_asked : (f : ListingFault) → Only (ListsAsked q) (Err f) → Only (Lists input) (Err f)
      at_asked f h = only_listing (Err f) (inr (four, (cut, inr (q, (asked.0, h.0)))))

      pub listed : (text : List ℕ) → Only (ListsAsked q) (Ok text) → Only (Lists input) (Ok text)
      listed text h = only_listing (Ok text) (four, (cut, (q, (asked.0, h.0))))

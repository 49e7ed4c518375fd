-- The bound rows of a mode: one for each pin of its unit, in order. Assumes nothing.
use Rattle.std.proofs.Common.{◌≡◌, ℕ, zero, suc, ◌+◌, ◌<◌, Bool, true, ◌&&◌, eqb, List, [], ◌∷◌, ◌++◌, map, length, get_or, filter, sym, refl, ap, ◌∙◌, subst, append-nil, arith}
use lib.ListN.{length-map}
use Rattle.std.specs.List.{flat_map, ContainsAt as Has, AllByRecursion}
use Rattle.std.proofs.ByRecursion.{all-has, All-map, All-weaker, kept_by_passes}
use Rattle.std.proofs.lemmas.List.{ext_get_or, get_or-map, length_push}
use Rattle.std.proofs.lemmas.Bool.{eqb-true}
use Rattle.sheet.specs.Sheets.{GoodAfter}
use Rattle.sheets.specs.declared.rows.PinRow.{PinRow}
use Rattle.sheets.specs.declared.rows.ModeRow.{ModeRow}
use Rattle.sheets.specs.declared.rows.BoundRow.{BoundRow}
use Rattle.sheets.specs.declared.rows.Place.{Place}
use Rattle.sheets.specs.Turns.{pins_of, pin_place, mode_places, places, place_of, no_place}
use Rattle.sheets.specs.Kinds.{bound_sheet}
use Rattle.sheets.specs.Reading.{Keeps}
use Rattle.platform.specs.Describing.{mode_in_unit, modes_of, bound_in_mode}
use Rattle.lines.proofs.Filters.{pick, all_of, all_joined, kept_both, kept_map, kept_joined, kept_alike}
use Rattle.lines.proofs.Turns.{On, on_map, on_unmap, only_at}

-- rows that come as they are due stand at the places in order
due_at : (ps : List Place) (before rest : List BoundRow) → GoodAfter (bound_sheet ps) before rest → (j : ℕ) → j < length rest → get_or (map place_of rest) j no_place ≡ get_or ps (length before + j) no_place
due_at ps before [] good j lt = absurd (omega arith)
due_at ps before (r ∷ rest) good zero lt = good.0.next.same ∙ ap (λ n. get_or ps n no_place) (omega arith)
due_at ps before (r ∷ rest) good (suc j) lt =
    due_at ps (before ++ r ∷ []) rest good.1 j (omega arith) ∙ ap (λ n. get_or ps n no_place) (omega (arith, length_push before r))

abbrev of_mode : ℕ → ℕ → Place → Bool
of_mode k m p = eqb p.unit k && eqb p.mode m

abbrev is_mode : ℕ → ℕ → ModeRow → Bool
is_mode k m r = eqb r.unit k && eqb r.mode m

module _ (pins : List PinRow) (modes : List ModeRow) (bounds : List BoundRow) (keeps : Keeps (bound_sheet (places pins modes)) bounds) where
  stand : map place_of bounds ≡ places pins modes
  stand =
      let e = length-map bounds place_of in
      let n = keeps.whole in
      ext_get_or no_place (map place_of bounds) (places pins modes) (e ∙ n) (λ i lt. due_at (places pins modes) [] bounds keeps.good i (omega arith) ∙ ap (λ x. get_or (places pins modes) x no_place) (omega arith))

  of_modes : (k m : ℕ) → map place_of (filter (bound_in_mode k m) bounds) ≡ flat_map (mode_places pins) (filter (is_mode k m) modes)
  of_modes k m =
      sym (kept_map (of_mode k m) place_of bounds)
      ∙ ap (filter (of_mode k m)) stand
      ∙ kept_joined (of_mode k m) (is_mode k m) (mode_places pins) (λ r. kept_alike (is_mode k m r) (pin_place r) (of_mode k m) (λ p. refl) (pins_of r.unit pins)) modes

  module _ (k m : ℕ) (pins_on : On (λ r. r.pin) 0 (pins_of k pins)) (modes_on : On (λ r. r.mode) 0 (modes_of k modes)) (lt : m < length (modes_of k modes)) where
    -- the row of the mode
    row : (r : ModeRow) × ((d : ModeRow) → get_or (modes_of k modes) m d ≡ r)
    row = pick (modes_of k modes) m lt

    row_unit : row.0.unit ≡ k
    row_unit = eqb-true row.0.unit k (all-has (λ r. mode_in_unit k r ≡ true) (modes_of k modes) row.0 (kept_by_passes (mode_in_unit k) modes) (m, lt, row.1))

    of_row : map place_of (filter (bound_in_mode k m) bounds) ≡ map (pin_place row.0) (pins_of k pins)
    of_row =
        of_modes k m
        ∙ ap (flat_map (mode_places pins)) (kept_both (mode_in_unit k) (λ r. eqb r.mode m) modes ∙ only_at (λ r. r.mode) 0 m m (modes_of k modes) row.0 modes_on (omega arith) lt ∙ ap (λ r. r ∷ []) (row.1 row.0))
        ∙ append-nil (mode_places pins row.0)
        ∙ ap (λ u. map (pin_place row.0) (pins_of u pins)) row_unit

    pub as_many : length (filter (bound_in_mode k m) bounds) ≡ length (pins_of k pins)
    as_many = sym (length-map (filter (bound_in_mode k m) bounds) place_of) ∙ ap length of_row ∙ length-map (pins_of k pins) (pin_place row.0)

    pub bounds_on : On (λ b. b.pin) 0 (filter (bound_in_mode k m) bounds)
    bounds_on = on_unmap (λ (p : Place). p.pin) place_of 0 _ (subst (On (λ (p : Place). p.pin) 0) (sym of_row) (on_map (λ (p : Place). p.pin) (pin_place row.0) 0 (pins_of k pins) pins_on))

  -- what holds of each mode row's unit and number holds of each bound row's
  pub as_modes : (P : ℕ → ℕ → Type 0) → AllByRecursion (λ r. P r.unit r.mode) modes → (b : BoundRow) → Has bounds b → P b.unit b.mode
  as_modes P all b (j, lt, at) =
      let Q : Place → Type 0 = λ p. P p.unit p.mode in
      let each : AllByRecursion Q (places pins modes) = all_joined Q (mode_places pins) modes (All-weaker (λ r. P r.unit r.mode) (λ r. AllByRecursion Q (mode_places pins r)) (λ r h. All-map Q (pin_place r) (pins_of r.unit pins) (all_of (λ p. Q (pin_place r p)) (λ p. h) (pins_of r.unit pins))) modes all) in
      let many = length-map bounds place_of in
      all-has Q (map place_of bounds) (place_of b) (subst (AllByRecursion Q) (sym stand) each) (j, omega arith, λ d. get_or-map place_of bounds j b d lt ∙ ap place_of (at b))

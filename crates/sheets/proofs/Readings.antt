-- Four sheets read one after the other have one outcome. Assumes nothing.
use Rattle.std.proofs.Common.{◌≡◌, ℕ, List, Ok, Err, Result, refl, subst, inl, inr}
use Rattle.answers.specs.Sequels.{One, Only}
use Rattle.answers.proofs.Sequels.{one_then, one_answers, only_one}
use Rattle.faults.specs.declared.sheet.SheetFault.{SheetFault}
use Rattle.sheet.specs.Sheets.{Granted, Outcome}
use Rattle.sheet.proofs.Outcomes.{one_outcome}
use Rattle.sheets.specs.declared.rows.PinRow.{PinRow}
use Rattle.sheets.specs.declared.rows.ModeRow.{ModeRow}
use Rattle.sheets.specs.declared.rows.BoundRow.{BoundRow}
use Rattle.sheets.specs.declared.rows.Demand.{Demand}
use Rattle.sheets.specs.Turns.{unit_count, places}
use Rattle.sheets.specs.Kinds.{pin_sheet, mode_sheet, bound_sheet, demand_sheet}
use Rattle.sheets.specs.Reading.{Rows, Kept, as_is, Reading}
use Rattle.sheets.specs.Fields.{pins_lawful, modes_lawful, bounds_lawful, demands_lawful}

pub one_reading : (b0 b1 b2 b3 : List ℕ) → One (Reading b0 b1 b2 b3)
one_reading b0 b1 b2 b3 =
    one_then (Outcome pin_sheet b0) as_is _ (one_outcome pins_lawful b0) (λ ps.
    one_then (Outcome (mode_sheet (unit_count ps)) b1) as_is _ (one_outcome (modes_lawful (unit_count ps)) b1) (λ ms.
    one_then (Outcome (bound_sheet (places ps ms)) b2) as_is _ (one_outcome (bounds_lawful (places ps ms)) b2) (λ bs.
    one_then (Outcome demand_sheet b3) as_is _ (one_outcome demands_lawful b3) (λ ds.
    one_answers (record { pins = ps; modes = ms; bounds = bs; demands = ds })))))

-- bounds read beside slices of the pins and modes
pub beside : {ps qs : List PinRow} {ms ns : List ModeRow} (bs : List ℕ) (r : Result (List BoundRow) SheetFault) → qs ≡ ps → ns ≡ ms → Only (Outcome (bound_sheet (places qs ns)) bs) r → Only (Outcome (bound_sheet (places ps ms)) bs) r
beside {ps = ps} {qs = qs} {ms = ms} {ns = ns} bs r e d h = subst (λ ls. Only (Outcome (bound_sheet ls) bs) r) (λ i. places (e i) (d i)) h

-- what each sheet in turn adds
module _ (b0 b1 b2 b3 : List ℕ) where
  only_reading : (r : Result Rows SheetFault) → Reading b0 b1 b2 b3 r → Only (Reading b0 b1 b2 b3) r
  only_reading r h = only_one (Reading b0 b1 b2 b3) (one_reading b0 b1 b2 b3) r h

  pub at_pins : (f : SheetFault) → Only (Outcome pin_sheet b0) (Err f) → Only (Reading b0 b1 b2 b3) (Err f)
  at_pins f h = only_reading (Err f) (inl (f, (h.0, refl)))

  module _ (ps : List PinRow) (pins : Only (Outcome pin_sheet b0) (Ok ps)) where
    pub at_modes : (n : ℕ) → n ≡ unit_count ps → (f : SheetFault) → Only (Outcome (mode_sheet n) b1) (Err f) → Only (Reading b0 b1 b2 b3) (Err f)
    at_modes n e f h = only_reading (Err f) (inr (ps, (pins.0, inl (f, (subst (λ k. Outcome (mode_sheet k) b1 (Err f)) e h.0, refl)))))

    module _ (ms : List ModeRow) (n : ℕ) (units : n ≡ unit_count ps) (modes : Only (Outcome (mode_sheet n) b1) (Ok ms)) where
      modes_read : Granted (mode_sheet (unit_count ps)) b1 ms
      modes_read = subst (λ k. Outcome (mode_sheet k) b1 (Ok ms)) units modes.0

      pub at_bounds : (f : SheetFault) → Only (Outcome (bound_sheet (places ps ms)) b2) (Err f) → Only (Reading b0 b1 b2 b3) (Err f)
      at_bounds f h = only_reading (Err f) (inr (ps, (pins.0, inr (ms, (modes_read, inl (f, (h.0, refl)))))))

      module _ (bs : List BoundRow) (bounds : Only (Outcome (bound_sheet (places ps ms)) b2) (Ok bs)) where
        pub at_demands : (f : SheetFault) → Only (Outcome demand_sheet b3) (Err f) → Only (Reading b0 b1 b2 b3) (Err f)
        at_demands f h = only_reading (Err f) (inr (ps, (pins.0, inr (ms, (modes_read, inr (bs, (bounds.0, inl (f, (h.0, refl)))))))))

        module _ (ds : List Demand) (demands : Only (Outcome demand_sheet b3) (Ok ds)) where
          pub all_read : Only (Reading b0 b1 b2 b3) (Ok (record { pins = ps; modes = ms; bounds = bs; demands = ds }))
          all_read = only_reading (Ok (record { pins = ps; modes = ms; bounds = bs; demands = ds })) (ps, (pins.0, (ms, (modes_read, (bs, (bounds.0, (ds, (demands.0, refl))))))))

          pub all_kept : Kept ps ms bs ds
          all_kept = record {
            pins_keep = record { good = pins.0.good; whole = pins.0.complete };
            modes_keep = record { good = modes_read.good; whole = modes_read.complete };
            bounds_keep = record { good = bounds.0.good; whole = bounds.0.complete };
            demands_keep = record { good = demands.0.good; whole = demands.0.complete };
          }

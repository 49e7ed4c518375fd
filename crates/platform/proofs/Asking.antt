-- Reading the sheets into a platform has one outcome. Assumes nothing.
use Rattle.std.proofs.Common.{ℕ, List, Ok, Err, Result, refl, inl, inr}
use Rattle.answers.specs.Sequels.{One, Only}
use Rattle.answers.proofs.Sequels.{one_then, one_answers, only_one}
use Rattle.faults.specs.declared.sheet.SheetFault.{SheetFault}
use Rattle.sheets.specs.Reading.{Rows, Reading}
use Rattle.sheets.proofs.Readings.{one_reading}
use Rattle.faults.specs.declared.platform.PlatformFault.{PlatformFault}
use Rattle.faults.specs.declared.platform.PlatformFault.TheVariants.{Sheet}
use Rattle.platform.specs.Describing.{Model}
use Rattle.platform.specs.Making.{Makes}
use Rattle.platform.specs.Inquiries.{Asked, as_is, Inquires}
use Rattle.platform.proofs.Made.{one_make}

pub one_inquiry : (b0 b1 b2 b3 : List ℕ) → One (Inquires b0 b1 b2 b3)
one_inquiry b0 b1 b2 b3 =
    one_then (Reading b0 b1 b2 b3) Sheet _ (one_reading b0 b1 b2 b3) (λ rows.
    one_then (Makes rows) as_is _ (one_make rows) (λ m.
    one_answers (record { model = m; demands = rows.demands })))

module _ (b0 b1 b2 b3 : List ℕ) where
  only_inquiry : (r : Result Asked PlatformFault) → Inquires b0 b1 b2 b3 r → Only (Inquires b0 b1 b2 b3) r
  only_inquiry = only_one (Inquires b0 b1 b2 b3) (one_inquiry b0 b1 b2 b3)

  pub at_sheets : (f : SheetFault) → Only (Reading b0 b1 b2 b3) (Err f) → Only (Inquires b0 b1 b2 b3) (Err (Sheet f))
  at_sheets f h = only_inquiry (Err (Sheet f)) (inl (f, (h.0, refl)))

  module _ (rows : Rows) (read : Only (Reading b0 b1 b2 b3) (Ok rows)) where
    pub at_platform : (f : PlatformFault) → Only (Makes rows) (Err f) → Only (Inquires b0 b1 b2 b3) (Err f)
    at_platform f h = only_inquiry (Err f) (inr (rows, (read.0, inl (f, (h.0, refl)))))

    pub asked : (m : Model) → Only (Makes rows) (Ok m) → Only (Inquires b0 b1 b2 b3) (Ok (record { model = m; demands = rows.demands }))
    asked m h = only_inquiry (Ok (record { model = m; demands = rows.demands })) (rows, (read.0, (m, (h.0, refl))))

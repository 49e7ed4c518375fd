-- What reading the four sheets into a platform and its demands comes to. Assumes nothing.
use Rattle.std.specs.Prelude.{ℕ, List, Result}
use Rattle.answers.specs.Sequels.{Then, Answers}
use Rattle.sheets.specs.declared.rows.Demand.{Demand}
use Rattle.sheets.specs.Reading.{Reading}
use Rattle.sheets.specs.Sets.{rows_of}
use Rattle.faults.specs.declared.platform.PlatformFault.{PlatformFault}
use Rattle.faults.specs.declared.platform.PlatformFault.TheVariants.{Sheet}
use Rattle.platform.specs.declared.inquiry.Inquiry.{Inquiry}
use Rattle.platform.specs.Describing.{Model}
use Rattle.platform.specs.Making.{model_of, Makes}

-- a platform and the demands on it, by what they are
pub record Asked : Type 0 where
  pub model : Model
  pub demands : List Demand

abbrev pub inquiry_of : Inquiry → Asked
inquiry_of q = record { model = model_of q.platform; demands = (rows_of q.sheets).demands }

-- a platform's fault is passed on as it is
abbrev pub as_is : PlatformFault → PlatformFault
as_is f = f

-- the sheets are read, and then the platform is made
abbrev pub Inquires : List ℕ → List ℕ → List ℕ → List ℕ → Result Asked PlatformFault → Type 0
Inquires b0 b1 b2 b3 =
    Then (Reading b0 b1 b2 b3) Sheet (λ rows.
    Then (Makes rows) as_is (λ m.
    Answers (record { model = m; demands = rows.demands })))

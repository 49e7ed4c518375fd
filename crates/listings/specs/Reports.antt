-- What is written out for an input. Assumes nothing.
use Rattle.std.specs.Prelude.{◌≡◌, ℕ, Bool, true, false, List, Ok, Err, string_bytes}
use Rattle.answers.specs.Refusals.{refusal}
use Rattle.answers.specs.Sequels.{Only}
use Rattle.faults.specs.declared.listing.ListingFault.{ListingFault}
use Rattle.faults.specs.Numbers.{listing_refusal}
use Rattle.listings.specs.declared.report.Report.{Report}
use Rattle.listings.specs.declared.report.Report.TheVariants.{Listing, Refusal}
use Rattle.listings.specs.Texts.{refusal_text}
use Rattle.listings.specs.Listings.{Lists}

-- the bytes of a report
abbrev pub text_of : Report → List ℕ
text_of (Listing text) = string_bytes text
text_of (Refusal text) = string_bytes text

abbrev pub is_refusal : Report → Bool
is_refusal (Listing text) = false
is_refusal (Refusal text) = true

-- the text is the listing of the input, or that of its one refusal, or says that memory was wanting; refused tells which
pub data Reported (input : List ℕ) (text : List ℕ) (refused : Bool) : Type 0 where
  listed : refused ≡ false → Only (Lists input) (Ok text) → Reported input text refused
  stopped : refused ≡ true → (f : ListingFault) → Only (Lists input) (Err f) → text ≡ refusal_text (listing_refusal f) → Reported input text refused
  starved : refused ≡ true → text ≡ refusal_text (refusal 0 0 0) → Reported input text refused

-- What the listing of an input is. Assumes nothing.
use Rattle.std.specs.Prelude.{ℕ, List, ◌++◌, Result}
use Rattle.answers.specs.Sequels.{Then, Answers}
use Rattle.platform.specs.Inquiries.{Asked, Inquires}
use Rattle.settling.specs.Sums.{draw_toll, heat_toll}
use Rattle.settling.specs.Settling.{Settles}
use Rattle.faults.specs.declared.listing.ListingFault.{ListingFault}
use Rattle.faults.specs.declared.listing.ListingFault.TheVariants.{Platform, Settle}
use Rattle.listings.specs.Inputs.{Cutting}
use Rattle.listings.specs.Texts.{settled_text}

-- a listing's fault is passed on as it is
abbrev pub as_is : ListingFault → ListingFault
as_is f = f

-- the listing of what is asked: by draw, and then by heat
abbrev pub ListsAsked : Asked → Result (List ℕ) ListingFault → Type 0
ListsAsked q =
    Then (Settles draw_toll q.model.rails q.model.units q.demands) Settle (λ d.
    Then (Settles heat_toll q.model.rails q.model.units q.demands) Settle (λ h.
    Answers (settled_text q.model d ++ settled_text q.model h)))

-- the listing of the input's bytes: they are cut, read, and settled
abbrev pub Lists : List ℕ → Result (List ℕ) ListingFault → Type 0
Lists input =
    Then (Cutting input) as_is (λ four.
    Then (Inquires four.pins four.modes four.bounds four.demands) Platform ListsAsked)

-- A fault with no number is want of memory. Assumes nothing.
use Rattle.std.proofs.Common.{◌≡◌, refl, arith}
use Rattle.answers.specs.Refusals.{refusal}
use Rattle.faults.specs.declared.sheet.SheetFault.{SheetFault}
use Rattle.faults.specs.declared.sheet.SheetFault.TheVariants.{TooLong, Names, Shape, Field, Turn, Crossed, Short, Memory as SheetMemory}
use Rattle.faults.specs.Numbers.{sheet_refusal}
use Rattle.faults.specs.declared.platform.PlatformFault.{PlatformFault}
use Rattle.faults.specs.declared.platform.PlatformFault.TheVariants.{Sheet, Twice, Driver, Memory as PlatformMemory}
use Rattle.faults.specs.Numbers.{platform_refusal}
use Rattle.faults.specs.declared.settle.SettleFault.TheVariants.{UnknownRail, NoChoice}
use Rattle.faults.specs.declared.listing.ListingFault.{ListingFault}
use Rattle.faults.specs.declared.listing.ListingFault.TheVariants.{Input, Parts, Platform, Settle, Memory}
use Rattle.faults.specs.Numbers.{listing_refusal}

sheet_starved : (f : SheetFault) → (sheet_refusal f).number ≡ 0 → sheet_refusal f ≡ refusal 0 0 0
sheet_starved (TooLong s) e = absurd (omega arith)
sheet_starved (Names s) e = absurd (omega arith)
sheet_starved (Shape s l) e = absurd (omega arith)
sheet_starved (Field s l) e = absurd (omega arith)
sheet_starved (Turn s l) e = absurd (omega arith)
sheet_starved (Crossed s l) e = absurd (omega arith)
sheet_starved (Short s l) e = absurd (omega arith)
sheet_starved SheetMemory e = refl

platform_starved : (f : PlatformFault) → (platform_refusal f).number ≡ 0 → platform_refusal f ≡ refusal 0 0 0
platform_starved (Sheet f) e = sheet_starved f e
platform_starved (Twice u) e = absurd (omega arith)
platform_starved (Driver r) e = absurd (omega arith)
platform_starved PlatformMemory e = refl

pub starved_says : (f : ListingFault) → (listing_refusal f).number ≡ 0 → listing_refusal f ≡ refusal 0 0 0
starved_says Input e = absurd (omega arith)
starved_says Parts e = absurd (omega arith)
starved_says (Platform f) e = platform_starved f e
starved_says (Settle (UnknownRail line)) e = absurd (omega arith)
starved_says (Settle NoChoice) e = absurd (omega arith)
starved_says Memory e = refl

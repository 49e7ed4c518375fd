-- Every case of every fault: its number, its sheet and its line. Assumes nothing.
use Rattle.answers.specs.declared.refusal.Refusal.{Refusal}
use Rattle.answers.specs.Refusals.{refusal}
use Rattle.faults.specs.declared.sheet.SheetFault.{SheetFault}
use Rattle.faults.specs.declared.sheet.SheetFault.TheVariants.{TooLong, Names, Shape, Field, Turn, Crossed, Short, Memory as SheetMemory}
use Rattle.faults.specs.declared.platform.PlatformFault.{PlatformFault}
use Rattle.faults.specs.declared.platform.PlatformFault.TheVariants.{Sheet, Twice, Driver, Memory as PlatformMemory}
use Rattle.faults.specs.declared.settle.SettleFault.{SettleFault}
use Rattle.faults.specs.declared.settle.SettleFault.TheVariants.{UnknownRail, NoChoice}
use Rattle.faults.specs.declared.listing.ListingFault.{ListingFault}
use Rattle.faults.specs.declared.listing.ListingFault.TheVariants.{Input, Parts, Platform, Settle, Memory}

-- want of memory has number 0
abbrev pub memory : Refusal
memory = refusal 0 0 0

abbrev pub sheet_refusal : SheetFault → Refusal
sheet_refusal (TooLong sheet) = refusal 1 sheet 0
sheet_refusal (Names sheet) = refusal 2 sheet 0
sheet_refusal (Shape sheet line) = refusal 3 sheet line
sheet_refusal (Field sheet line) = refusal 4 sheet line
sheet_refusal (Turn sheet line) = refusal 5 sheet line
sheet_refusal (Crossed sheet line) = refusal 6 sheet line
sheet_refusal (Short sheet line) = refusal 7 sheet line
sheet_refusal SheetMemory = memory

abbrev pub platform_refusal : PlatformFault → Refusal
platform_refusal (Sheet e) = sheet_refusal e
platform_refusal (Twice unit) = refusal 8 0 0
platform_refusal (Driver rail) = refusal 9 0 0
platform_refusal PlatformMemory = memory

abbrev pub settle_refusal : SettleFault → Refusal
settle_refusal (UnknownRail line) = refusal 10 3 line
settle_refusal NoChoice = refusal 11 0 0

abbrev pub listing_refusal : ListingFault → Refusal
listing_refusal Input = refusal 1 0 0
listing_refusal Parts = refusal 23 0 0
listing_refusal (Platform e) = platform_refusal e
listing_refusal (Settle e) = settle_refusal e
listing_refusal Memory = memory

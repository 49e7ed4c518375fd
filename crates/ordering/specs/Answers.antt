-- What ordering answers. Assumes nothing.
use Rattle.std.specs.Prelude.{◌≡◌, ℕ, ◌^◌, ◌≤◌, ◌<◌, List, length, take, Ok, Err, Result}
use Rattle.platform.specs.Units.{value_of, Resting}
use Rattle.platform.specs.Describing.{Model}
use Rattle.platform.specs.Resting.{LowestUnrested}
use Rattle.openings.specs.Orders.{NoSafeOrder}
use Rattle.openings.specs.declared.end.End.TheVariants.{First, Last}
use Rattle.ordering.specs.declared.order.Order.{Order}
use Rattle.ordering.specs.declared.fault.OrderFault.{OrderFault}
use Rattle.ordering.specs.declared.fault.OrderFault.TheVariants.{Restless, TooMany, ShortTable, NoOrder}
use Rattle.ordering.specs.Sets.{Mixes, count, Finished, SafeOrder}

-- a fault's number
abbrev pub order_number : OrderFault → ℕ
order_number (Restless end unit) = 12
order_number TooMany = 13
order_number ShortTable = 14
order_number NoOrder = 15

-- the rails of an order, first to last
abbrev pub rails_of : Order → List ℕ
rails_of order = take order.count order.rails

-- two mixes on a platform's rails
abbrev pub mixes_of : Model → List ℕ → List ℕ → Mixes
mixes_of m first last = record { rails = m.rails; first = value_of first; last = value_of last }

-- both mixes rest, few enough rails change, and the table has a byte for each set
pub record Ready (m : Model) (first last table : List ℕ) : Type 0 where
  pub first_rests : Resting m.units first
  pub last_rests : Resting m.units last
  pub few : count (mixes_of m first last) ≤ 16
  pub long : 2 ^ count (mixes_of m first last) ≤ length table

-- what each answer says, given a platform, both mixes, and the table before and after: each refusal comes exactly on its condition, with none before it
abbrev pub Ordered : Model → List ℕ → List ℕ → List ℕ → List ℕ → Result Order OrderFault → Type 0
Ordered m first last old table (Ok order) =
    Ready m first last old × (Finished m.units (mixes_of m first last) old table × SafeOrder m.units (mixes_of m first last) (rails_of order))
Ordered m first last old table (Err (Restless First u)) = LowestUnrested m.units first u × (table ≡ old)
Ordered m first last old table (Err (Restless Last u)) = Resting m.units first × (LowestUnrested m.units last u × (table ≡ old))
Ordered m first last old table (Err TooMany) = Resting m.units first × (Resting m.units last × ((16 < count (mixes_of m first last)) × (table ≡ old)))
Ordered m first last old table (Err ShortTable) =
    Resting m.units first × (Resting m.units last × ((count (mixes_of m first last) ≤ 16) × ((length old < 2 ^ count (mixes_of m first last)) × (table ≡ old))))
Ordered m first last old table (Err NoOrder) =
    Ready m first last old × (Finished m.units (mixes_of m first last) old table × NoSafeOrder m.rails m.units (value_of first) (value_of last))

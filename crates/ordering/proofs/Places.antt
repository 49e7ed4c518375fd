-- The rails' bits in a search. Assumes nothing.
use Rattle.std.proofs.Common.{ℕ, ◌<◌, ◌≤◌, slice_index, arith}
use Rattle.ordering.specs.declared.search.Search.{Search}
use Rattle.ordering.specs.Sets.{place}
use Rattle.ordering.specs.Filling.{mixes}
use Rattle.ordering.proofs.Ranks.{place_most, rank_most}

-- the shift by a rail's place is a short one
pub place_short : (s : Search) (r : ℕ) → r < 24 → slice_index s.places r < 64
place_short s r lt = omega (arith, s.placed r lt, rank_most (mixes s.change).first (mixes s.change).last r)

module _ (s : Search) (r : ℕ) (lt : r < (mixes s.change).rails) where
  pub rail_low : r < 24
  rail_low = omega (arith, lt, s.change.platform.now.rails_counted.1)

  pub place_low : place (mixes s.change) r ≤ 16
  place_low = omega (arith, place_most (mixes s.change) r lt, s.counted, s.few)

-- The relay board: its meaning, its making, and what a start and a poll do. Assumes nothing.
use Rattle.std.specs.Prelude.{◌≡◌, ℕ, ◌-◌, Bool, true, false, cond, not, ◌==◌, None, is_some, unwrap_or, option_map}
use Rattle.std.proofs.Common.{lit≤}
use Rattle.boards.specs.declared.bench.Bench.{Bench}
use Rattle.boards.specs.declared.relay.RelayRail.{RelayRail}
use Rattle.boards.specs.Benches.{row, BenchStarted, BenchPolled}
use Rattle.boards.specs.Rails.{RailMeaning, Same}

abbrev pub RelayBoard : Type 0
RelayBoard = Bench RelayRail

-- what no rail has
abbrev pub blank : RelayRail
blank = record { value = 0; delay = 0; going = None; delayed = lit≤ tt; low = lit≤ tt }

-- where a rail is to be: where it is going, or where it rests
abbrev pub target_of : RelayRail → ℕ
target_of x = unwrap_or (option_map (λ g. g.target) x.going) x.value

-- how many no answers are left: the rail's credit
abbrev pub left_of : RelayRail → ℕ
left_of x = unwrap_or (option_map (λ g. g.left) x.going) 0

abbrev pub is_pending : RelayRail → Bool
is_pending x = is_some x.going

abbrev pub meaning_of : RelayRail → RailMeaning
meaning_of x = record { value = x.value; target = target_of x; pending = is_pending x; credit = left_of x }

-- what the board has of rail i
abbrev pub rail_at : RelayBoard → ℕ → RelayRail
rail_at b i = row blank b i

abbrev pub values : RelayBoard → ℕ → ℕ
values b i = (rail_at b i).value

abbrev pub targets : RelayBoard → ℕ → ℕ
targets b i = target_of (rail_at b i)

abbrev pub delays : RelayBoard → ℕ → ℕ
delays b i = (rail_at b i).delay

abbrev pub pendings : RelayBoard → ℕ → Bool
pendings b i = is_pending (rail_at b i)

abbrev pub lefts : RelayBoard → ℕ → ℕ
lefts b i = left_of (rail_at b i)

-- a rail that is started towards t has as many no answers left as its delay says
pub record Sent (t : ℕ) (x y : RelayRail) : Type 0 where
  pub value : y.value ≡ x.value
  pub target : target_of y ≡ t
  pub delay : y.delay ≡ x.delay
  pub left : left_of y ≡ x.delay
  pub pending : is_pending y ≡ true

-- the polled rail stays while a no is left, and else jumps to its target, with a yes
pub record Asked (answer : Bool) (x y : RelayRail) : Type 0 where
  pub over : answer ≡ (left_of x == 0)
  pub value : y.value ≡ cond answer (target_of x) x.value
  pub target : target_of y ≡ target_of x
  pub delay : y.delay ≡ x.delay
  pub left : left_of y ≡ left_of x - 1
  pub pending : is_pending y ≡ not answer

-- a start of rail r towards t
abbrev pub RelayStarted : RelayBoard → ℕ → ℕ → RelayBoard → Type 0
RelayStarted = BenchStarted blank Sent

-- a poll of rail r
abbrev pub RelayPolled : RelayBoard → ℕ → Bool → RelayBoard → Type 0
RelayPolled = BenchPolled blank Asked Same

-- a rail at rest at v, with the delay d
pub record Rests (d v : ℕ) (x : RelayRail) : Type 0 where
  pub value : x.value ≡ v
  pub target : target_of x ≡ v
  pub delay : x.delay ≡ d
  pub left : left_of x ≡ 0
  pub still : is_pending x ≡ false

-- The ramp bench: its meaning, its making, and what a start and a poll do. Assumes nothing.
use Rattle.std.specs.Prelude.{◌≡◌, ℕ, ◌+◌, ◌-◌, min, max, Bool, true, false, not, ◌==◌, None, is_some, unwrap_or}
use Rattle.std.proofs.Common.{lit≤}
use Rattle.boards.specs.declared.bench.Bench.{Bench}
use Rattle.boards.specs.declared.ramp.RampRail.{RampRail}
use Rattle.boards.specs.Benches.{row, BenchStarted, BenchPolled}
use Rattle.boards.specs.Rails.{RailMeaning}

abbrev pub RampBench : Type 0
RampBench = Bench RampRail

-- what no rail has
abbrev pub blank : RampRail
blank = record { value = 0; goal = None; rate = 1; rated = (lit≤ tt, lit≤ tt); low = (lit≤ tt, lit≤ tt) }

-- where a rail is to be: at its goal, or where it rests
abbrev pub target_of : RampRail → ℕ
target_of x = unwrap_or x.goal x.value

abbrev pub is_pending : RampRail → Bool
is_pending x = is_some x.goal

-- how far v and t are apart
abbrev pub apart : ℕ → ℕ → ℕ
apart v t = max v t - min v t

-- how often a poll of the rail may still be answered no: each takes it 1 mV nearer at least, and the last is a yes
abbrev pub credit_of : RampRail → ℕ
credit_of x = apart x.value (target_of x) - 1

abbrev pub meaning_of : RampRail → RailMeaning
meaning_of x = record { value = x.value; target = target_of x; pending = is_pending x; credit = credit_of x }

-- what the board has of rail i
abbrev pub rail_at : RampBench → ℕ → RampRail
rail_at b i = row blank b i

abbrev pub values : RampBench → ℕ → ℕ
values b i = (rail_at b i).value

abbrev pub targets : RampBench → ℕ → ℕ
targets b i = target_of (rail_at b i)

abbrev pub rates : RampBench → ℕ → ℕ
rates b i = (rail_at b i).rate

abbrev pub pendings : RampBench → ℕ → Bool
pendings b i = is_pending (rail_at b i)

abbrev pub credits : RampBench → ℕ → ℕ
credits b i = credit_of (rail_at b i)

-- v after d mV on its way to t, where it stops
abbrev pub towards : ℕ → ℕ → ℕ → ℕ
towards v t d = max (v - d) (min t (v + d))

-- a rail that is started towards t
pub record Sent (t : ℕ) (x y : RampRail) : Type 0 where
  pub value : y.value ≡ x.value
  pub target : target_of y ≡ t
  pub rate : y.rate ≡ x.rate
  pub pending : is_pending y ≡ true

-- a rail that is not polled moves by its rate
pub record Moved (x y : RampRail) : Type 0 where
  pub value : y.value ≡ towards x.value (target_of x) x.rate
  pub target : target_of y ≡ target_of x
  pub rate : y.rate ≡ x.rate
  pub pending : is_pending y ≡ is_pending x

-- the polled rail moves so too; the answer is yes exactly when it has arrived, and then it is not pending
pub record Asked (answer : Bool) (x y : RampRail) : Type 0 where
  pub value : y.value ≡ towards x.value (target_of x) x.rate
  pub target : target_of y ≡ target_of x
  pub rate : y.rate ≡ x.rate
  pub arrived : answer ≡ (y.value == target_of x)
  pub pending : is_pending y ≡ not answer

-- a start of rail r towards t
abbrev pub RampStarted : RampBench → ℕ → ℕ → RampBench → Type 0
RampStarted = BenchStarted blank Sent

-- a poll of rail r
abbrev pub RampPolled : RampBench → ℕ → Bool → RampBench → Type 0
RampPolled = BenchPolled blank Asked Moved

-- a rail at rest at v, with the rate d
pub record Rests (d v : ℕ) (x : RampRail) : Type 0 where
  pub value : x.value ≡ v
  pub target : target_of x ≡ v
  pub rate : x.rate ≡ d
  pub still : is_pending x ≡ false

-- Orders that move the changed rails singly, and why no script does better. Assumes nothing.
use Rattle.std.specs.Prelude.{◌≡◌, ℕ, suc, ◌<◌, ◌≢◌, ◌⊎◌, List, [], ◌∷◌, length}
use Rattle.platform.specs.Units.{Device}
use Rattle.boards.specs.Meaning.{Meaning}
use Rattle.histories.specs.declared.step.Step.{Step}
use Rattle.histories.specs.declared.step.Step.TheVariants.{Start, Wait}
use Rattle.histories.specs.Rails.{after, last_mix}
use Rattle.histories.specs.Spans.{Safe}
use Rattle.histories.specs.Plans.{Plan, Opened}

-- r is one of these rails
abbrev pub Among : ℕ → List ℕ → Type 0
Among r [] = ⊥
Among r (s ∷ rs) = (r ≡ s) ⊎ Among r rs

-- no rail comes twice
abbrev pub Distinct : List ℕ → Type 0
Distinct [] = Unit {0}
Distinct (r ∷ rs) = (Among r rs → ⊥) × Distinct rs

-- these are the rails that change from the first mix to the last, each once, and no other
pub record Changed (n : ℕ) (first last : ℕ → ℕ) (order : List ℕ) : Type 0 where
  pub once : Distinct order
  pub only : (r : ℕ) → Among r order → (r < n) × (first r ≢ last r)
  pub every : (r : ℕ) → r < n → first r ≢ last r → Among r order

-- the script that sends these rails to the last mix one by one: it starts one, waits for it, and goes on to the next
abbrev pub singly : (ℕ → ℕ) → List ℕ → List Step
singly last [] = []
singly last (r ∷ rs) = Start r (last r) ∷ Wait r ∷ singly last rs

-- whichever step of the script was last, the rails are safe
abbrev pub SafeScript : ℕ → List Device → (ℕ → ℕ) → List Step → Type 0
SafeScript n units first script = (k : ℕ) → k < length script → Safe n units (after first script (suc k))

-- no order of the changed rails is safe
abbrev pub NoSafeOrder : ℕ → List Device → (ℕ → ℕ) → (ℕ → ℕ) → Type 0
NoSafeOrder n units first last = (order : List ℕ) → Changed n first last order → SafeScript n units first (singly last order) → ⊥

-- the rails that a script starts, in the order of their starts
abbrev pub started : List Step → List ℕ
started [] = []
started (Start r t ∷ rest) = r ∷ started rest
started (Wait r ∷ rest) = started rest

-- where no order is safe, no script that starts each changed rail once and no other opens, wherever its waits stand
abbrev pub NoWayRound : Type 0
NoWayRound =
    (units : List Device) (q : Plan) (last : ℕ → ℕ) (b : Meaning)
    → NoSafeOrder q.rails units q.first last
    → Changed q.rails q.first last (started q.script)
    → ((i : ℕ) → i < q.rails → last_mix q.first q.script i ≡ last i)
    → Opened units q b
    → ⊥

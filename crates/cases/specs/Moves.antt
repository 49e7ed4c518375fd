-- Ways of the small board from off to on. Assumes nothing.
use Rattle.std.specs.Prelude.{ℕ, List, [], ◌∷◌, ◌++◌, replicate}
use Rattle.platform.specs.declared.parts.Mix.{Mix}
use Rattle.histories.specs.declared.step.Step.{Step}
use Rattle.histories.specs.declared.step.Step.TheVariants.{Start, Wait}
use Rattle.ordering.specs.Sets.{Mixes}
use Rattle.ordering.specs.Answers.{mixes_of}
use Rattle.cases.specs.Board.{small_board}

-- both rails at 0
abbrev pub off : List ℕ
off = 0 ∷ 0 ∷ []

-- the supply gives 11400 mV, and the regulator makes 1650 of them
abbrev pub on : List ℕ
on = 11400 ∷ 1650 ∷ []

-- both rails change
abbrev pub switching_on : Mixes
switching_on = mixes_of small_board off on

-- no rail changes
abbrev pub staying_off : Mixes
staying_off = mixes_of small_board off off

-- mixes that do not rest: of the supply, and of the load
abbrev pub supply_between : List ℕ
supply_between = 5 ∷ 0 ∷ []

abbrev pub load_between : List ℕ
load_between = 11400 ∷ 700 ∷ []

-- rail 0 comes first, and then rail 1
abbrev pub rail_0_first : List Step
rail_0_first = Start 0 11400 ∷ Wait 0 ∷ Start 1 1650 ∷ Wait 1 ∷ []

-- rail 1 comes first, and then rail 0
abbrev pub rail_1_first : List Step
rail_1_first = Start 1 1650 ∷ Wait 1 ∷ Start 0 11400 ∷ Wait 0 ∷ []

-- rail 0 starts first, but nothing waits for it before rail 1 starts
abbrev pub both_at_once : List Step
both_at_once = Start 0 11400 ∷ Start 1 1650 ∷ Wait 0 ∷ Wait 1 ∷ []

-- a wait for a rail that stands
abbrev pub idle_wait : List Step
idle_wait = Wait 0 ∷ []

-- both rails on, as a mix
abbrev pub mix_on : Mix
mix_on = record { values = on ++ replicate 22 0 }

-- the regulator's pins where its output leaves 0 and its input has not, and 0 past them
abbrev pub rail_1_ahead : List ℕ
rail_1_ahead = 0 ∷ 1 ∷ 0 ∷ 0 ∷ []

-- How a settled platform and a refusal are written out. Assumes nothing.
use Rattle.std.specs.Prelude.{ℕ, List, [], ◌∷◌, ◌++◌, length, codes, decimal}
use Rattle.std.specs.List.{range_with_len, flat_map}
use Rattle.answers.specs.declared.refusal.Refusal.{Refusal}
use Rattle.sheet.specs.Sheets.{line}
use Rattle.platform.specs.declared.parts.Bounds.{Bounds}
use Rattle.platform.specs.Units.{bounds_at, value_of}
use Rattle.platform.specs.Describing.{Model}
use Rattle.settling.specs.declared.answer.Settled.{Settled}
use Rattle.settling.specs.declared.cost.HeatThenDraw.{HeatThenDraw}
use Rattle.settling.specs.Choices.{mode_of}
use Rattle.settling.specs.Tolls.{cost}
use Rattle.settling.specs.Sums.{heat_toll}

-- what is drawn in all, and the greatest heat class
abbrev pub total_text : HeatThenDraw → List ℕ
total_text t = line (codes "draw" ∷ codes "heat" ∷ []) ++ line (decimal t.draw ∷ decimal t.heat ∷ [])

abbrev pub unit_line : List ℕ → ℕ → List ℕ
unit_line modes k = line (decimal k ∷ decimal (mode_of modes k) ∷ [])

-- the mode of each unit
abbrev pub units_text : List ℕ → ℕ → List ℕ
units_text modes n = line (codes "unit" ∷ codes "mode" ∷ []) ++ flat_map (unit_line modes) (range_with_len 0 n)

abbrev pub rail_line : List Bounds → List ℕ → ℕ → List ℕ
rail_line windows targets r = line (decimal r ∷ decimal (bounds_at windows r).low ∷ decimal (bounds_at windows r).high ∷ decimal (value_of targets r) ∷ [])

-- the window and the target of each rail
abbrev pub rails_text : List Bounds → List ℕ → ℕ → List ℕ
rails_text windows targets n = line (codes "rail" ∷ codes "low" ∷ codes "high" ∷ codes "target" ∷ []) ++ flat_map (rail_line windows targets) (range_with_len 0 n)

-- the listing of a choice on a platform
abbrev pub choice_text : Model → List ℕ → List Bounds → List ℕ → List ℕ
choice_text m modes windows targets = total_text (cost heat_toll m.units modes) ++ (units_text modes (length m.units) ++ rails_text windows targets m.rails)

abbrev pub settled_text : {C : Type 0} → Model → Settled C → List ℕ
settled_text m s = choice_text m s.modes s.windows s.targets.values

-- the listing of a refusal
abbrev pub refusal_text : Refusal → List ℕ
refusal_text r = line (codes "refusal" ∷ codes "sheet" ∷ codes "line" ∷ []) ++ line (decimal r.number ∷ decimal r.sheet ∷ decimal r.line ∷ [])

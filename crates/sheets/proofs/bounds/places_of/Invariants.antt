use Rattle.std.proofs.Common.{◌≡◌, take, vec_items}
use Rattle.sheets.specs.Turns.{places}
use Rattle.sheets.proofs.bounds.places_of.Given as goal

abbrev pub invariant-loop-mode : goal.invariant-loop-mode
invariant-loop-mode l = vec_items l.out ≡ places l.pins (take l.mode-index l.modes)

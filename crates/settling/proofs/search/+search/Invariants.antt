use Rattle.std.proofs.Common.{◌-◌, length}
use Rattle.settling.specs.Choices.{units_of}
use Rattle.settling.specs.Searching.{Tried}
use Rattle.settling.proofs.search.+search.Given as goal

abbrev pub decreases-search : goal.decreases-search
decreases-search g l = length (units_of l.task.platform.now) - l.at

abbrev pub invariant-loop-mode : goal.invariant-loop-mode
invariant-loop-mode g l = Tried g.C.Cost.toll (units_of l.task.platform.now) l.task.demands.now l.at l.mode l.draft.modes l.initial.found l.found

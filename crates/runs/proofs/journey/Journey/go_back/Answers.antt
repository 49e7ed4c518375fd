use Rattle.std.proofs.Common.{◌-◌, arith}
use Rattle.runs.specs.Working.{script_of}
use Rattle.runs.proofs.Places.{behind, rail_here}
use Rattle.runs.proofs.journey.Journey.go_back.Goals as goal

pub step_to-requires-clause-rail : goal.step_to-requires-clause-rail
step_to-requires-clause-rail c =
    let j = c.args.self.now in
    let w = behind (script_of j) j.place c.args.step c.requires in
    omega (arith, c.rail-rail.ensures, rail_here j.rails (j.place - 1) (script_of j) j.known w.1.1)

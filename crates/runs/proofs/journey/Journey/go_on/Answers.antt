use Rattle.std.proofs.Common.{arith}
use Rattle.runs.specs.Working.{script_of}
use Rattle.runs.proofs.Places.{ahead, rail_here}
use Rattle.runs.proofs.journey.Journey.go_on.Goals as goal

pub bounds-self-rail : goal.bounds-self-rail
bounds-self-rail c =
    let j = c.args.self.now in
    let w = ahead (script_of j) j.place c.args.step c.requires in
    omega (arith, c.rail-rail.ensures, rail_here j.rails j.place (script_of j) j.known w.1, j.few)

pub step_to-requires-clause-rail : goal.step_to-requires-clause-rail
step_to-requires-clause-rail c =
    let j = c.args.self.now in
    let w = ahead (script_of j) j.place c.args.step c.requires in
    omega (arith, c.rail-rail.ensures, rail_here j.rails j.place (script_of j) j.known w.1)

use Rattle.std.proofs.Common.{◌≡◌, ◌*◌, ◌≤◌, take}
use Rattle.platform.specs.Devices.{devices}
use Rattle.platform.specs.Rules.{drivers}
use Rattle.platform.proofs.check.drivers.Given as goal

abbrev pub invariant-loop-unit : goal.invariant-loop-unit
invariant-loop-unit l = (l.count ≡ drivers l.rail (devices (take l.unit-index l.units))) × (l.count ≤ 4 * l.unit-index)

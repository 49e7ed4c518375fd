use Rattle.std.proofs.Common.{◌+◌}
use Rattle.platform.specs.Devices.{device}
use Rattle.platform.specs.Rules.{AloneTo}
use Rattle.platform.proofs.check.alone.Given as goal

abbrev pub invariant-loop-later : goal.invariant-loop-later
invariant-loop-later l = AloneTo (l.at + 1 + l.later-index) (device l.unit) l.at

use Rattle.std.proofs.Common.{◌+◌, ◌-◌, ◌*◌, ◌≤◌, length}
use Rattle.platform.specs.Devices.{device}
use Rattle.spans.specs.Searching.{values_of}
use Rattle.spans.proofs.Steps.{Lower}
use Rattle.spans.proofs.trial.Trial.+go_on_try_pin.Given as goal

abbrev pub decreases-go_on : goal.decreases-go_on
decreases-go_on l = 2 * (length (device l.self.now.unit.now).pins - l.self.now.pin) + 1

abbrev pub decreases-try_pin : goal.decreases-try_pin
decreases-try_pin l = 2 * (length (device l.self.now.unit.now).pins - l.self.now.pin)

abbrev pub invariant-try_pin-loop-value : goal.invariant-try_pin-loop-value
invariant-try_pin-loop-value l = (l.low ≤ l.value) × Lower (device l.unit) l.spans l.pin (values_of l.self.values) l.value

abbrev pub decreases-try_pin-loop-value : goal.decreases-try_pin-loop-value
decreases-try_pin-loop-value l = l.high + 1 - l.value

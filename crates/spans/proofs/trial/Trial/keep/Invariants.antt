use Rattle.std.proofs.Common.{◌≡◌, length}
use Rattle.platform.specs.Devices.{device}
use Rattle.spans.specs.Searching.{Keeps}
use Rattle.spans.proofs.trial.Trial.keep.Given as goal

abbrev pub invariant-loop-number : goal.invariant-loop-number
invariant-loop-number l = (length l.kept ≡ 6) × Keeps l.number (device l.self.unit.now) l.self.pin l.value l.self.alive l.kept

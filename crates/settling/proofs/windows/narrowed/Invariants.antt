use Rattle.std.proofs.Common.{◌≡◌, length}
use Rattle.platform.specs.Devices.{device}
use Rattle.settling.specs.Narrowing.{Hold, StillTo}
use Rattle.settling.proofs.windows.narrowed.Given as goal

abbrev pub invariant-loop-pin : goal.invariant-loop-pin
invariant-loop-pin l = record { sized : length l.left ≡ 24; hold : Hold (StillTo (length l.yielded) (device l.unit) l.mode l.initial.left) l.left }

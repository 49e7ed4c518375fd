-- The numbers of the refusals of calls on a run. Assumes nothing.
use Rattle.std.specs.Prelude.{ℕ}
use Rattle.histories.specs.declared.fault.RunFault.{RunFault}
use Rattle.histories.specs.declared.fault.RunFault.TheVariants.{NotOpen, Unsuited, Between}

abbrev pub run_number : RunFault → ℕ
run_number NotOpen = 21
run_number Unsuited = 20
run_number Between = 22

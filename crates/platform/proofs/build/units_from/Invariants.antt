use Rattle.std.proofs.Common.{◌≡◌, map, vec_items}
use Rattle.std.specs.List.{range_with_len}
use Rattle.sheets.specs.Sets.{rows_of}
use Rattle.platform.specs.Devices.{devices}
use Rattle.platform.specs.Describing.{unit_from}
use Rattle.platform.proofs.build.units_from.Given as goal

abbrev pub invariant-loop-unit : goal.invariant-loop-unit
invariant-loop-unit l = devices (vec_items l.out) ≡ map (unit_from (rows_of l.sheets)) (range_with_len 0 l.unit)

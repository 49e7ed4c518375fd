-- A unit of the program by what it is. Assumes nothing.
use Rattle.std.specs.Prelude.{List, map, vec_items}
use Rattle.platform.specs.declared.unit.Unit.{Unit}
use Rattle.platform.specs.Units.{Device}

abbrev pub device : Unit → Device
device u = record { pins = vec_items u.pins; modes = vec_items u.modes }

abbrev pub devices : List Unit → List Device
devices units = map device units

use Rattle.std.proofs.Common.{rules}
use Rattle.sheets.proofs.Counts.{counted}
use Rattle.sheets.proofs.pins.units_of.Goals as goal

pub returns : goal.returns
returns c = counted c.args.rows.now c.last.result c.map_or.result c.last.ensures.value (search rules)

use Rattle.std.proofs.Common.{vec_items}
use Rattle.sheet.proofs.Outcomes.{exactly}
use Rattle.sheet.proofs.read.read_sheet.Goals as goal

pub returns : goal.returns
returns g c = exactly (g.met.L.Layout.lawful c.args.layout.now) vec_items c.args.bytes.now c.read_rows.result c.read_rows.ensures

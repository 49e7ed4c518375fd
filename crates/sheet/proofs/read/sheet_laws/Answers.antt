use Rattle.sheet.proofs.Outcomes.{one_outcome, one_writing, reads_back}
use Rattle.sheet.proofs.read.sheet_laws.Goals as goal

pub returns : goal.returns
returns g c =
    let law = g.met.L.Layout.lawful c.args.layout.now in
    record { outcome = one_outcome law; writing = one_writing law; back = reads_back law }

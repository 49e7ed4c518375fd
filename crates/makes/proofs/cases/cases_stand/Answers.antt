use Rattle.makes.proofs.Rows.{four_polls, third_yes}
use Rattle.makes.proofs.cases.cases_stand.Goals as goal

pub returns : goal.returns
returns c = record { ramp = four_polls; steady = third_yes }

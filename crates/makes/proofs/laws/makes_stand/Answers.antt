use Rattle.makes.proofs.Ramps.{ramp_arrives}
use Rattle.makes.proofs.Relays.{relay_waits}
use Rattle.makes.proofs.laws.makes_stand.Goals as goal

pub returns : goal.returns
returns c = record { ramp = ramp_arrives; relay = relay_waits }

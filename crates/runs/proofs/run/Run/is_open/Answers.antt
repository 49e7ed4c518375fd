use Rattle.std.proofs.Common.{Some, None, Option, Decides, refl}
use Rattle.std.specs.Option.{is_some}
use Rattle.runs.specs.declared.journey.Journey.{Journey}
use Rattle.runs.specs.Opening.{IsOpen}
use Rattle.runs.proofs.run.Run.is_open.Goals as goal

told : (held : Option Journey) → Decides (is_some held) (IsOpen held)
told None = (λ e. cc, λ o. let e = o.1 in cc)
told (Some j) = (λ e. (j, refl), λ o. refl)

pub returns : goal.returns
returns c = rw (c.is_some.ensures, c.self.view_is) (told c.args.self.now)

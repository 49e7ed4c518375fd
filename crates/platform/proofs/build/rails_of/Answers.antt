use Rattle.std.proofs.Common.{ap, ◌∙◌, arith}
use Rattle.std.proofs.lemmas.List.{take_all}
use Rattle.platform.specs.Describing.{rail_count}
use Rattle.platform.proofs.Building.{rails_more}
use Rattle.platform.proofs.build.rails_of.Goals as goal

pub loop-row-preserved : goal.loop-row-preserved
loop-row-preserved c = c.max-rails.ensures ∙ rails_more c.args.rows.now c.loop-row.row-index _ c.loop-row.rails (omega arith) c.loop-row.invariant

pub returns : goal.returns
returns c = c.loop-row.invariant ∙ ap rail_count (take_all c.loop-row.row-index c.args.rows.now (omega arith))

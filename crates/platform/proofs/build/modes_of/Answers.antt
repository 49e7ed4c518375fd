use Rattle.std.proofs.Common.{[], ◌∷◌, ◌++◌, map, vec_items, ap, ◌∙◌, arith}
use Rattle.std.proofs.lemmas.List.{take_all}
use Rattle.std.proofs.lemmas.Bool.{eq-eqb, ne_eqb}
use Rattle.platform.specs.Describing.{mode_in_unit, modes_of, mode_from}
use Rattle.sheets.proofs.Kept.{keeps_yes, keeps_no}
use Rattle.platform.proofs.build.modes_of.Goals as goal
use Rattle.platform.proofs.build.modes_of.Goals.{then-row-unit+in_ok-mode_from+in_ok-push, else-row-unit}

pub loop-row-preserved : goal.loop-row-preserved
loop-row-preserved c =
    elim c.if-row-unit.branch [
      | then-row-unit+in_ok-mode_from+in_ok-push w ↦
          keeps_yes (mode_from c.args.bounds.now) (mode_in_unit c.args.unit) [] c.args.rows.now c.loop-row.row-index _ (omega arith) (eq-eqb _ _ w.if-row-unit.true) c.loop-row.invariant (ap vec_items w.out-is ∙ w.in_ok-push.ensures.items ∙ ap (λ y. vec_items c.loop-row.out ++ y ∷ []) w.in_ok-mode_from.ensures)
      | else-row-unit w ↦
          ap vec_items w.out-is ∙ keeps_no (mode_from c.args.bounds.now) (mode_in_unit c.args.unit) [] c.args.rows.now c.loop-row.row-index _ (omega arith) (ne_eqb _ _ w.if-row-unit.false) c.loop-row.invariant
    ]

pub returns : goal.returns
returns c = c.loop-row.invariant ∙ ap (λ l. map (mode_from c.args.bounds.now) (modes_of c.args.unit l)) (take_all c.loop-row.row-index c.args.rows.now (omega arith))

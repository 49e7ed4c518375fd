use Rattle.std.proofs.Common.{rules, ◌≡◌, [], ◌∷◌, ◌++◌, take, slice_index, sym, ap, ◌∙◌, append_assoc, arith}
use Rattle.platform.specs.Units.{value_of}
use Rattle.histories.specs.declared.step.Step.TheVariants.{Start, Wait}
use Rattle.openings.specs.Orders.{singly}
use Rattle.rehearsal.proofs.Singly.{singly_more}
use Rattle.rehearsal.proofs.steps.script_of.Goals as goal

pub loop-rail-preserved : goal.loop-rail-preserved
loop-rail-preserved c =
    let rails = c.rails-rail-items.result.now in
    let last = value_of c.args.last.now.values in
    let i = c.loop-rail.rail-index in
    let r = slice_index rails i in
    let goes : c.unwrap_or-target.result ≡ last r = search rules in
    c.in_ok-push-2.ensures.items
    ∙ ap (λ l. l ++ Wait r ∷ []) c.in_ok-push.ensures.items
    ∙ ap (λ l. (l ++ Start r c.unwrap_or-target.result ∷ []) ++ Wait r ∷ []) c.loop-rail.invariant
    ∙ ap (λ t. (singly last (take i rails) ++ Start r t ∷ []) ++ Wait r ∷ []) goes
    ∙ append_assoc (singly last (take i rails)) (Start r (last r) ∷ []) (Wait r ∷ [])
    ∙ sym (singly_more last rails i (omega arith))

use Rattle.std.proofs.Common.{◌++◌, length, string_bytes, ap, ◌∙◌}
use Rattle.settling.specs.Choices.{units_of}
use Rattle.settling.specs.Tolls.{cost}
use Rattle.settling.specs.Sums.{heat_toll}
use Rattle.listings.specs.Texts.{units_text, rails_text, total_text}
use Rattle.listings.proofs.Lines.{both}
use Rattle.listings.proofs.write.write_choice.Goals as goal

pub returns : goal.returns
returns g c =
    let p = c.args.platform.now in
    let s = c.args.choice.now in
    let units = units_text s.modes (length (units_of p)) in
    let rails = rails_text s.windows s.targets.values p.rails in
    both (string_bytes c.args.out.now) (total_text (cost heat_toll (units_of p) s.modes)) (units ++ rails)
    (c.in_ok-write_total.ensures ∙ ap (λ t. string_bytes c.args.out.now ++ total_text t) c.cost_of.ensures)
    (both (string_bytes c.write_total.new.out) units rails c.in_ok-write_units.ensures c.in_ok-write_rails.ensures)

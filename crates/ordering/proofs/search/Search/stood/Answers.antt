use Rattle.std.proofs.Common.{ℕ, sym, ap, ◌∙◌, ⊎_elim}
use Rattle.std.proofs.lemmas.Bool.{false≢true}
use Rattle.histories.specs.declared.rail.Rail.TheVariants.{Still}
use Rattle.histories.specs.Spans.{span_of}
use Rattle.ordering.specs.Sets.{place}
use Rattle.ordering.specs.Filling.{mixes}
use Rattle.ordering.proofs.Bits.{bit_cases}
use Rattle.ordering.proofs.Ranks.{mix_here, mix_out}
use Rattle.ordering.proofs.search.Search.stood.Goals as goal

pub returns-then-has : goal.returns-then-has
returns-then-has c =
    c.point.ensures
    ∙ ap (λ (v : ℕ). span_of (Still v)) (sym (mix_here (mixes c.args.self.now.change) c.args.set c.args.rail (c.has.ensures.0 c.if-has.true)))

pub returns-else-has : goal.returns-else-has
returns-else-has c =
    let x = mixes c.args.self.now.change in
    let s = c.args.set in
    let r = c.args.rail in
    c.point-else-has.ensures
    ∙ ap (λ (v : ℕ). span_of (Still v)) (sym (mix_out x s r (⊎_elim (λ none. none) (λ one. absurd (false≢true (sym c.if-has.false ∙ c.has.ensures.1 one))) (bit_cases s (place x r)))))

use Rattle.std.proofs.Common.{ℕ, ◌-◌, sym, ap, ◌∙◌}
use Rattle.std.proofs.lemmas.Bool.{false≢true}
use Rattle.ordering.specs.Sets.{bit, place}
use Rattle.ordering.specs.Filling.{mixes}
use Rattle.ordering.proofs.Bits.{bit_same, bit_out}
use Rattle.ordering.proofs.search.Search.is_last.Goals as goal
use Rattle.ordering.proofs.search.Search.is_last.Goals.{then-not-changes-via-then-not-changes, then-not-changes-via-else-not-changes+then-not-has}

pub returns-then-not-changes : goal.returns-then-not-changes
returns-then-not-changes c = (
  λ e. absurd (false≢true e),
  λ last. elim c.then-not-changes.branch [
    | then-not-changes-via-then-not-changes w ↦ sym w.if-not-changes.true ∙ c.changes.ensures.1 last.1.next.changes
    | then-not-changes-via-else-not-changes+then-not-has w ↦
        sym w.if-not-has.true
        ∙ w.has.ensures.1
        (ap (λ (s : ℕ). bit s (place (mixes c.args.self.now.change) c.args.rail)) (sym last.1.is)
        ∙ bit_same last.0 (place (mixes c.args.self.now.change) c.args.rail) last.1.next.out)
  ],
)

pub follows-requires-clause-out : goal.follows-requires-clause-out
follows-requires-clause-out c =
    ap (λ (a : ℕ). bit (c.args.set - a) (place (mixes c.args.self.now.change) c.args.rail)) c.alone.ensures
    ∙ bit_out c.args.set (place (mixes c.args.self.now.change) c.args.rail) (c.has.ensures.0 c.if-not-has.false)

-- The spans are safe at every place, the first included. Assumes nothing.
use Rattle.std.proofs.Common.{ℕ, zero, suc, ◌≤◌, List, length, sym, ◌∙◌}
use Rattle.platform.specs.Units.{Device}
use Rattle.boards.specs.Meaning.{Meaning}
use Rattle.histories.specs.Spans.{mix_of, Safe}
use Rattle.histories.specs.Plans.{Plan, rails_at, Opened}
use Rattle.histories.proofs.Spans.{mix_value, modes_same}

pub safe_at : {units : List Device} {q : Plan} {b : Meaning} → Opened units q b → (k : ℕ) → k ≤ length q.script → Safe q.rails units (rails_at q k)
safe_at {units} {q} o zero h mix allowed =
    modes_same q.rails units (mix_of q.rails q.first) mix (λ r l. allowed r l ∙ sym (mix_value q.rails q.first r l)) o.wired o.modes
safe_at o (suc k) h mix allowed = o.safe k h mix allowed

-- What an opening gives to build on, and that the spans are safe at every place, the first included. Assumes nothing.
use Rattle.std.proofs.Common.{ℕ, zero, suc, ◌<◌, ◌≤◌, List, length, drop, sym, ◌∙◌}
use Rattle.platform.specs.Units.{Device}
use Rattle.platform.specs.Rules.{Each, Wired, Sound}
use Rattle.boards.specs.Meaning.{Meaning}
use Rattle.histories.specs.Rails.{Ready}
use Rattle.histories.specs.Spans.{mix_of, InModes, Safe}
use Rattle.openings.specs.Plans.{Plan, rails_at}
use Rattle.openings.specs.Openings.{Opened}
use Rattle.histories.proofs.Spans.{mix_value, modes_same}

-- the script is in form, every pin is on a rail, the first mix has every unit in some mode, and so have all mixes that a step allows
pub record Ground (units : List Device) (q : Plan) : Type 0 where
  pub formed : (k : ℕ) → k ≤ length q.script → Ready q.rails (drop k q.script) (rails_at q k)
  pub wired : Each (Wired q.rails) units
  pub modes : InModes units (mix_of q.rails q.first)
  pub safe : (k : ℕ) → k < length q.script → Safe q.rails units (rails_at q (suc k))

-- a rest mode is some mode
pub ground : {units : List Device} {q : Plan} {count : ℕ} {b : Meaning} → Sound q.rails units → Opened units q count b → Ground units q
ground s o = record {
  formed = λ k h. (o.passes.formed k h).0;
  wired = s.wired;
  modes = λ k h. let rest = o.passes.first_rests k h in (rest.0, (rest.1.0.0, rest.1.1));
  safe = o.passes.safe;
}

pub safe_at : {units : List Device} {q : Plan} → Ground units q → (k : ℕ) → k ≤ length q.script → Safe q.rails units (rails_at q k)
safe_at {units} {q} o zero h mix allowed =
    modes_same q.rails units (mix_of q.rails q.first) mix (λ r l. allowed r l ∙ sym (mix_value q.rails q.first r l)) o.wired o.modes
safe_at o (suc k) h mix allowed = o.safe k h mix allowed

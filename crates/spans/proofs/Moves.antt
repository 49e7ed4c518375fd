-- A unit with no pin on the rail whose span changes stays as safe as it was. Assumes nothing.
use Rattle.std.proofs.Common.{◌≡◌, ℕ, ◌<◌, List, length, refl, subst, ⊎_elim}
use Rattle.std.proofs.lemmas.Bool.{cases_eq}
use Rattle.platform.specs.declared.parts.Bounds.{Bounds}
use Rattle.platform.specs.Units.{Device, unit_at, rail_at, bounds_at, value_of, Within}
use Rattle.platform.specs.Rules.{Wired}
use Rattle.spans.specs.Safety.{Allowed, SafeFor, pin_values}
use Rattle.spans.specs.Moving.{OnlyChanged, OneRail}
use Rattle.spans.proofs.Mixes.{listed, seek, held_alike}

untouched : (rails : ℕ) (u : Device) → Wired rails u → (old new : List Bounds) (r : ℕ) → OnlyChanged r old new → (mix : List ℕ) → Allowed rails old mix → ((p : ℕ) → p < length u.pins → rail_at u p ≡ r → ⊥) → SafeFor rails old u → SafeFor rails new u
untouched rails u wired old new r only mix allowed off safe other inside =
    let P : ℕ → ℕ → Type 0 = λ q v. Within (bounds_at old q) v × ((q ≡ r → ⊥) → v ≡ value_of other q) in
    let back = listed rails P (λ q h.
    ⊎_elim
    (λ e. (value_of mix q, (allowed q h, λ ne. absurd (ne e))))
    (λ ne. (value_of other q, (subst (λ (b : Bounds). Within b (value_of other q)) (only q ne) (inside q h), λ _. refl)))
    (cases_eq q r)) in
    held_alike rails old u (pin_values u back.0) (pin_values u other)
    (λ p h. (back.1 (rail_at u p) (wired p h)).1 (off p h))
    (safe back.0 (λ q h. (back.1 q h).0))

pub one_rail : OneRail
one_rail m sound old new r only mix allowed safe on k lt =
    ⊎_elim
    (λ touches. on k lt touches)
    (λ off. untouched m.rails (unit_at m.units k) (sound.wired k lt) old new r only mix allowed off (safe k lt))
    (seek (unit_at m.units k) r (length (unit_at m.units k).pins))

-- The rows of answers that polls right after a start come to. Assumes nothing.
use Rattle.std.proofs.Common.{◌≡◌, ℕ, zero, suc, ◌+◌, ◌-◌, Bool, ◌&&◌, eqb, leb, List, [], ◌∷◌, ap, ◌∙◌}
use Rattle.layers.specs.declared.steady.Steady.{Steady}
use Rattle.boards.specs.Ramp.{RampBench, values, targets, rates, towards, RampPolled}
use Rattle.boards.specs.Relay.{RelayBoard, lefts, RelayPolled}
use Rattle.layers.specs.Steady.{run_at, run_after, SteadyPolled}
use Rattle.makes.specs.Calls.{Gives}
use Rattle.makes.specs.Cases.{FourPolls, ThirdYes}

abbrev ramp_row : ℕ → ℕ → ℕ → ℕ → List Bool
ramp_row d v t zero = []
ramp_row d v t (suc m) = eqb (towards v t d) t ∷ ramp_row d (towards v t d) t m

ramp_gives : (d v t r m : ℕ) (b : RampBench) → rates b r ≡ d → values b r ≡ v → targets b r ≡ t → Gives RampPolled r b (ramp_row d v t m)
ramp_gives d v t r zero b ed ev et = tt
ramp_gives d v t r (suc m) b ed ev et = λ answer b' p.
    let a = p.rails.rail in
    let moved : values b' r ≡ towards v t d = cc in
    (a.arrived ∙ ap (λ x. eqb (values b' r) x) et ∙ ap (λ x. eqb x t) moved, ramp_gives d (towards v t d) t r m b' (a.rate ∙ ed) moved (a.target ∙ et))

pub four_polls : FourPolls
four_polls b b' r ed ev start =
    let s = start.rails.rail in
    ramp_gives 500 0 1650 r 4 b' (s.rate ∙ ed) (s.value ∙ ev) s.target

-- what the layer answers where so many no answers are left below, and so many yes answers have run
abbrev steady_row : ℕ → ℕ → ℕ → ℕ → List Bool
steady_row k left run zero = []
steady_row k left run (suc m) = (eqb left 0 && leb k (run + 1)) ∷ steady_row k (left - 1) (run_after k (eqb left 0) run) m

steady_gives : (k left run r m : ℕ) (s : Steady RelayBoard) → s.need ≡ k → lefts s.below r ≡ left → run_at s.run r ≡ run → Gives (SteadyPolled RelayPolled) r s (steady_row k left run m)
steady_gives k left run r zero s ek el er = tt
steady_gives k left run r (suc m) s ek el er = λ answer s' p.
    let a = p.below.rails.rail in
    let c = p.run.rail in
    let said : p.said ≡ eqb left 0 = a.over ∙ ap (λ n. eqb n 0) el in
    let told : answer ≡ (eqb left 0 && leb k (run + 1)) = cc in
    let ran : run_at s'.run r ≡ run_after k (eqb left 0) run = cc in
    (told, steady_gives k (left - 1) (run_after k (eqb left 0) run) r m s' (p.need ∙ ek) (a.left ∙ ap (λ n. n - 1) el) ran)

pub third_yes : ThirdYes
third_yes s s' r t ek ed start =
    steady_gives 3 0 0 r 3 s' (start.need ∙ ek) (start.below.rails.rail.left ∙ ed) start.run.rail

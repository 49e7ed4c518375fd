-- One step more of a script, and going through its first steps. Assumes nothing.
use Rattle.std.proofs.Common.{◌≡◌, ℕ, zero, suc, List, [], ◌∷◌, length, get_or, take, drop, fold, sym, refl, ap, ◌∙◌, ⊎_elim, arith, drop-cons}
use Rattle.std.proofs.Math.Seq.{take-suc}
use Rattle.std.proofs.lemmas.List.{drop_all, take_all}
use Rattle.std.proofs.lemmas.List.Sums.{fold_push}
use Rattle.std.proofs.lemmas.Bool.{cases_lt}
use Rattle.histories.specs.declared.rail.Rail.{Rail}
use Rattle.histories.specs.declared.rail.Rail.TheVariants.{Still}
use Rattle.histories.specs.declared.step.Step.{Step}
use Rattle.histories.specs.declared.step.Step.TheVariants.{Start, Wait}
use Rattle.histories.specs.Rails.{stepped, after}

-- a step changes its rail, whatever comes after it and whatever the others do
stepped_one : (s : Step) (rest : List Step) (rails : ℕ → Rail) (i : ℕ) → stepped (s ∷ rest) rails i ≡ stepped (s ∷ []) (λ _. rails i) i
stepped_one (Start r t) rest rails i = refl
stepped_one (Wait r) rest rails i = refl

-- a rail after a step
abbrev pub by : ℕ → Rail → Step → Rail
by i state s = stepped (s ∷ []) (λ _. state) i

-- a rail after the first k steps, by going through them
pub fold_after : (first : ℕ → ℕ) (script : List Step) (k i : ℕ) → fold (by i) (Still (first i)) (take k script) ≡ after first script k i
fold_after first script zero i = refl
fold_after first script (suc k) i =
    let s = get_or script k (Start 0 0) in
    ⊎_elim
    (λ lt.
    ap (fold (by i) (Still (first i))) (take-suc script k (Start 0 0) lt)
    ∙ fold_push (by i) (Still (first i)) (take k script) s
    ∙ ap (λ x. by i x s) (fold_after first script k i)
    ∙ sym (stepped_one s (drop (suc k) script) (after first script k) i)
    ∙ sym (ap (λ l. stepped l (after first script k) i) (drop-cons script k (Start 0 0) lt)))
    (λ le.
    ap (fold (by i) (Still (first i))) (take_all (suc k) script (omega (arith, le)) ∙ sym (take_all k script le))
    ∙ fold_after first script k i
    ∙ sym (ap (λ l. stepped l (after first script k) i) (drop_all k script le)))
    (cases_lt k (length script))

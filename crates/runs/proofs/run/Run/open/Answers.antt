use Rattle.std.proofs.Common.{refl, sym, subst}
use Rattle.std.proofs.lemmas.Result.{err_from_is_err_and}
use Rattle.openings.specs.Openings.{Suits, Standing}
use Rattle.runs.specs.Working.{meaning}
use Rattle.runs.proofs.Forms.{fresh_plan}
use Rattle.runs.proofs.Outcomes.{never, not_open}
use Rattle.runs.proofs.run.Run.open.Goals as goal
use Rattle.runs.proofs.run.Run.open.Goals.{then-not-suited-via-then-not-suited, then-not-suited-via-else-not-suited+then-not-stands_on}

pub returns-then-is_open : goal.returns-then-is_open
returns-then-is_open g c = (c.if-is_open.ensures.0 refl, refl)

pub returns-in_err-check : goal.returns-in_err-check
returns-in_err-check g c =
    let p = err_from_is_err_and c.from_residual.result c.from_residual.ensures.1 in
    rw (p.1, p.2) (not_open c.args.self.now c.if-is_open.ensures.1, c.in_err-check.ensures, refl)

pub returns-then-not-suited : goal.returns-then-not-suited
returns-then-not-suited g c =
    let p = c.args.proposal.now in
    let b = c.args.board.now in
    let plan = sym (fresh_plan g.B.Board p.platform.now.rails p.first.now p.script.now c.begun-journey.result b c.begun-journey.ensures) in (
      not_open c.args.self.now c.if-is_open.ensures.1,
      c.in_ok-check.ensures.0,
      λ suits stands.
          elim c.then-not-suited.branch [
            | then-not-suited-via-then-not-suited w ↦ never w.if-not-suited.ensures.1 (subst (λ q. Suits q (g.B.Board.rails b)) plan suits)
            | then-not-suited-via-else-not-suited+then-not-stands_on w ↦ never w.if-not-stands_on.ensures.1 (subst (λ q. Standing q (meaning g.B.Board b)) plan stands)
          ],
      refl,
    )

pub returns : goal.returns
returns g c =
    let p = c.args.proposal.now in
    let b = c.args.board.now in
    let plan = fresh_plan g.B.Board p.platform.now.rails p.first.now p.script.now c.begun-journey.result b c.begun-journey.ensures in (
      not_open c.args.self.now c.if-is_open.ensures.1,
      record {
        passes = c.in_ok-check.ensures.0;
        suits = subst (λ q. Suits q (g.B.Board.rails b)) plan (c.if-not-suited.ensures.0 refl);
        standing = subst (λ q. Standing q (meaning g.B.Board b)) plan (c.if-not-stands_on.ensures.0 refl);
      },
      record { journey = c.begun-journey.result; is = refl; fresh = c.begun-journey.ensures },
    )

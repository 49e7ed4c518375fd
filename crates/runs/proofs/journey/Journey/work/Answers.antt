use Rattle.std.proofs.Common.{sym, ap, ◌∙◌, ◌-◌, arith}
use Rattle.histories.specs.Rails.{origin_of}
use Rattle.openings.specs.Runs.{start_ahead, wait_ahead, wait_back, start_back}
use Rattle.runs.proofs.Links.{step_rail, origin_low, moved_on, moved_back, waiting_on, waiting_back, arrived}
use Rattle.runs.proofs.journey.Journey.work.Goals as goal

pub returns-in_default : goal.returns-in_default
returns-in_default g c = arrived g.B.Board c.args.self.now c.args.board.now (sym c.in_default.is ∙ c.current.ensures)

-- the rail of the step is one of the board's
pub send-requires-clause-rail : goal.send-requires-clause-rail
send-requires-clause-rail g c =
    step_rail g.B.Board c.args.self.now c.args.board.now c.requires _ (rw c.in-Forward-Start.is-1 at c.in-Some.ensures)

pub ask-requires : goal.ask-requires
ask-requires g c =
    step_rail g.B.Board c.args.self.now c.args.board.now c.requires _ (rw c.in-Forward-Wait.is-1 at c.in-Some.ensures)

pub send-requires-in-Backward-Wait-clause-rail : goal.send-requires-in-Backward-Wait-clause-rail
send-requires-in-Backward-Wait-clause-rail g c =
    step_rail g.B.Board c.args.self.now c.args.board.now c.requires _ (rw c.in-Backward-Wait.is-1 at c.in-Some.ensures)

pub ask-requires-in-Backward-Start : goal.ask-requires-in-Backward-Start
ask-requires-in-Backward-Start g c =
    step_rail g.B.Board c.args.self.now c.args.board.now c.requires _ (rw c.in-Backward-Start.is-1 at c.in-Some.ensures)

pub send-requires-in-Backward-Wait-clause-low : goal.send-requires-in-Backward-Wait-clause-low
send-requires-in-Backward-Wait-clause-low g c =
    let j = c.args.self.now in
    let w = c.in-Backward-Wait in
    omega (arith, c.origin.ensures, ap origin_of c.before-in-Backward-Wait.ensures, origin_low g.B.Board j c.args.board.now c.requires w.rail (rw w.is-1 at c.in-Some.ensures) (j.place - 1))

-- a poll that is answered no
pub returns-then-not-ask : goal.returns-then-not-ask
returns-then-not-ask g c =
    let w = c.in-Forward-Wait in
    waiting_on g.B.Board c.args.self.now c.args.board.now c.ask.new.board w.rail w.is-0 (rw w.is-1 at c.in-Some.ensures) c.if-not-ask.ensures

pub returns-then-not-ask-2 : goal.returns-then-not-ask-2
returns-then-not-ask-2 g c =
    let w = c.in-Backward-Start in
    waiting_back g.B.Board c.args.self.now c.args.board.now c.ask-in-Backward-Start.new.board w.rail _ w.is-0 (rw w.is-1 at c.in-Some.ensures) c.if-not-ask-2.ensures

-- a step on, and a step back
pub returns-in-Forward-Start : goal.returns-in-Forward-Start
returns-in-Forward-Start g c =
    let w = c.in-Forward-Start in
    let p = c.go_on.ensures in
    moved_on g.B.Board c.args.self.now c.go_on.new.self c.args.board.now c.send.new.board _ (rw w.is-1 at c.in-Some.ensures) w.is-0 p.place p.direction p.same
    (λ rest e. start_ahead e c.send.ensures)

pub returns-else-not-ask : goal.returns-else-not-ask
returns-else-not-ask g c =
    let w = c.in-Forward-Wait in
    let p = c.go_on-in-Forward-Wait.ensures in
    moved_on g.B.Board c.args.self.now c.go_on-in-Forward-Wait.new.self c.args.board.now c.ask.new.board _ (rw w.is-1 at c.in-Some.ensures) w.is-0 p.place p.direction p.same
    (λ rest e. wait_ahead e c.if-not-ask.ensures)

pub returns-in-Backward-Wait : goal.returns-in-Backward-Wait
returns-in-Backward-Wait g c =
    let w = c.in-Backward-Wait in
    let p = c.go_back.ensures in
    moved_back g.B.Board c.args.self.now c.go_back.new.self c.args.board.now c.send-in-Backward-Wait.new.board _ (rw w.is-1 at c.in-Some.ensures) w.is-0 p.place p.direction p.same
    (λ rest e. wait_back e (rw (c.origin.ensures ∙ ap origin_of c.before-in-Backward-Wait.ensures) at c.send-in-Backward-Wait.ensures))

pub returns-else-not-ask-2 : goal.returns-else-not-ask-2
returns-else-not-ask-2 g c =
    let w = c.in-Backward-Start in
    let p = c.go_back-in-Backward-Start.ensures in
    moved_back g.B.Board c.args.self.now c.go_back-in-Backward-Start.new.self c.args.board.now c.ask-in-Backward-Start.new.board _ (rw w.is-1 at c.in-Some.ensures) w.is-0 p.place p.direction p.same
    (λ rest e. start_back e c.if-not-ask-2.ensures)

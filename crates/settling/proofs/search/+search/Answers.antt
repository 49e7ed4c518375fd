use Rattle.std.proofs.Common.{◌≡◌, ℕ, ◌+◌, ◌<◌, ◌≤◌, List, length, set, sym, ap, subst, arith, rules}
use Rattle.std.proofs.lemmas.Bool.Decides.{not_from_Decides}
use Rattle.sheets.specs.declared.rows.Kind.{Kind}
use Rattle.platform.specs.Units.{unit_at, mode_at}
use Rattle.platform.specs.Devices.{device, devices}
use Rattle.platform.proofs.Checking.{as_many}
use Rattle.settling.specs.Choices.{units_of}
use Rattle.settling.specs.Searching.{Earlier, Extends}
use Rattle.settling.proofs.Drafts.{next_unit, kind_read, place, room_more, stands_more}
use Rattle.settling.proofs.Searches.{skipped, closed, not_rest, pruned, leaf, tried_more, tried_all}
use Rattle.settling.proofs.search.+search.Goals as goal
use Rattle.settling.proofs.search.+search.Goals.{in-Rest, in_default-matches, then-matches, else-matches}

pub returns-then-not-all_open : goal.returns-then-not-all_open
returns-then-not-all_open g t c =
    let shut = not_from_Decides c.all_open.result c.all_open.ensures c.if-not-all_open.true in
    skipped c.args.best c.requires.found c.requires.place (closed c.requires.within c.requires.stands shut)

pub returns-then-reached : goal.returns-then-reached
returns-then-reached g t c = pruned g.C.Cost.laws c.args.best c.requires.within c.requires.stands c.requires.found c.requires.place (c.reached.ensures.0 c.if-reached.true)

pub returns-in_default : goal.returns-in_default
returns-in_default g t c =
    let last : c.args.at ≡ length (units_of c.args.task.platform.now) = omega (arith, c.in_default.ensures.lookup.3, as_many c.units.result.now, ap (λ us. length (devices us)) c.units.ensures.value) in
    let short = not_from_Decides c.reached.result c.reached.ensures c.if-reached.false in
    leaf g.C.Cost.laws c.args.best last c.requires.stands (c.all_open.ensures.0 c.if-not-all_open.false) short

pub extended-requires-clause-room : goal.extended-requires-clause-room
extended-requires-clause-room g t c =
    let next = next_unit c.args.task.platform.now c.units.result.now c.args.at c.in-Some.unit.now c.units.ensures.value c.in-Some.ensures.lookup.3.0 c.in-Some.ensures.lookup.1 in
    rw next.is at (room_more next.sound c.requires.stands next.within g.C.Cost.laws c.loop-mode.mode)

pub search-found-requires : goal.search-found-requires
search-found-requires g t c κs within =
    let us = units_of c.args.task.platform.now in
    let at = c.args.at in
    let mode = c.loop-mode.mode in
    let next = next_unit c.args.task.platform.now c.units.result.now at c.in-Some.unit.now c.units.ensures.value c.in-Some.ensures.lookup.3.0 c.in-Some.ensures.lookup.1 in
    let below : mode < length (device c.in-Some.unit.now).modes = search rules in
    let rest : (mode_at (device c.in-Some.unit.now) mode).kind ≡ Kind.Rest = elim c.match-matches.branch [
      | in-Rest w ↦ kind_read c.in-Some.unit.now c.deref-chosen-items.result.now mode _ Kind.Rest c.deref-chosen-items.ensures.value c.loop-mode-test.true w.in-Rest.is
      | in_default-matches w ↦ cc (w.matches-is, c.if-matches.true)
    ] in
    let extends : Extends g.C.Cost.toll (unit_at us at) at mode c.args.draft c.extended.result = rw next.is c.extended.ensures in
    let more = stands_more g.C.Cost.laws c.requires.stands extends (place next.sound c.requires.stands next.within) (rw next.is (below, rest)) in
    let early = subst (λ (ms : List ℕ). Earlier (at + 1) c.loop-mode.found ms) (sym extends.modes) c.loop-mode.invariant.place in
    (search rules, (within, (omega (arith, next.within), (more, (c.loop-mode.invariant.found, early)))))

pub loop-mode-preserved : goal.loop-mode-preserved
loop-mode-preserved g t c =
    let us = units_of c.args.task.platform.now in
    let demands = c.args.task.demands.now in
    let modes = c.args.draft.modes in
    let best = c.loop-mode.found in
    let tried = c.loop-mode.invariant in
    let next = next_unit c.args.task.platform.now c.units.result.now c.args.at c.in-Some.unit.now c.units.ensures.value c.in-Some.ensures.lookup.3.0 c.in-Some.ensures.lookup.1 in
    let mode = c.loop-mode.mode in
    let long = place next.sound c.requires.stands next.within in
    elim c.if-matches.branch [
      | then-matches w ↦
          let searched = rw w.extended.ensures.modes at w.search-found.ensures in
          rw w.found-is (tried_more {units = us} {demands = demands} {modes = modes} long {old = c.args.best} {r = w.search-found.result} tried searched)
      | else-matches w ↦
          let pass : (mode_at (device c.in-Some.unit.now) mode).kind ≡ Kind.Pass = elim c.match-matches.branch [
            | in-Rest v ↦ cc (v.matches-is, w.if-matches.false)
            | in_default-matches v ↦ kind_read c.in-Some.unit.now c.deref-chosen-items.result.now mode _ Kind.Pass c.deref-chosen-items.ensures.value c.loop-mode-test.true v.in_default-matches.is
          ] in
          let none = not_rest us demands c.args.at mode modes next.within long (rw next.is pass) in
          let same = skipped {n = c.args.at + 1} {modes = set modes c.args.at mode} best tried.found tried.place none in
          rw w.found-is (tried_more {units = us} {demands = demands} {modes = modes} long {old = c.args.best} {r = best} tried same)
    ]

pub returns : goal.returns
returns g t c =
    let next = next_unit c.args.task.platform.now c.units.result.now c.args.at c.in-Some.unit.now c.units.ensures.value c.in-Some.ensures.lookup.3.0 c.in-Some.ensures.lookup.1 in
    let all : length (device c.in-Some.unit.now).modes ≤ c.loop-mode.mode = search rules in
    tried_all (place next.sound c.requires.stands next.within) next.within (rw next.is all) c.loop-mode.invariant

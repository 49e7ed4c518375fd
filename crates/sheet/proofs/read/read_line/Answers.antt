use Rattle.std.proofs.Common.{◌≡◌, ◌+◌, ◌<◌, map, length, take, drop, vec_items, sym, ap, ◌∙◌, arith}
use native.Mathlib.Nat.{sub-zero}
use Rattle.std.proofs.lemmas.List.{length-map}
use Rattle.sheet.specs.Sheets.{Lawful}
use Rattle.sheet.proofs.Lines.{refuted, held, Line, line_cut, miscounted, unread, misplaced, crossed}
use Rattle.sheet.proofs.read.read_line.Given as given
use Rattle.sheet.proofs.read.read_line.Goals as goal
use Rattle.sheet.proofs.read.read_line.Goals.{After-width}

-- the line and its fields, and how many they are
module _ (g : given.Over) where
  law : (c : After-width g) → Lawful (g.L.Layout.sheet c.args.layout.now)
  law c = g.met.L.Layout.lawful c.args.layout.now

  cut : (c : After-width g) → Line c.args.rest.now (map (λ x. x.now) (vec_items c.in_ok-fields.fields)) (drop (c.find-end.result + 1) c.args.rest.now)
  cut c =
      let l : c.find-end.result < length c.args.rest.now = omega (arith, c.find-end.ensures.within) in
      line_cut c.find-end.result l (c.find-end.ensures.found l) c.find-end.ensures.before (ap (λ n. take n c.args.rest.now) (sub-zero c.find-end.result)) c.in_ok-fields.ensures

  counted : (c : After-width g) → c.len.result ≡ length (map (λ x. x.now) (vec_items c.in_ok-fields.fields))
  counted c = c.len.ensures ∙ c.in_ok-fields.fields.ok.0 ∙ sym (length-map (vec_items c.in_ok-fields.fields) (λ x. x.now))

pub returns-then-len-width : goal.returns-then-len-width
returns-then-len-width g c _ =
    let b = (goal.at.returns-then-len-width g c).After-width in
    miscounted (law g b) c.args.rows.now c.number-sheet.ensures c.line_after-line.ensures (cut g b) c.requires.some (λ e. c.if-len-width.true (counted g b ∙ e ∙ sym c.width.ensures))

pub returns-in_default : goal.returns-in_default
returns-in_default g c _ =
    let b = (goal.at.returns-in_default g c).After-width in
    unread (law g b) c.args.rows.now c.number-sheet.ensures c.line_after-line.ensures (cut g b) c.requires.some (sym (counted g b) ∙ c.if-len-width.false ∙ c.width.ensures) (λ r e. c.in_default.ensures r (e ∙ ap (map (λ x. x.now)) (sym c.as_slice.ensures.value)))

pub returns-then-not-next : goal.returns-then-not-next
returns-then-not-next g c _ =
    let b = (goal.at.returns-then-not-next g c).After-width in
    let x = c.in-Some.ensures in
    misplaced (law g b) c.args.rows.now c.number-sheet.ensures c.line_after-line.ensures (cut g b) c.requires.some (sym (counted g b) ∙ c.if-len-width.false ∙ c.width.ensures) (x.0 ∙ ap (map (λ x. x.now)) c.as_slice.ensures.value) x.1 (refuted c.if-not-next.true c.next.ensures)

pub returns-then-not-level : goal.returns-then-not-level
returns-then-not-level g c _ =
    let b = (goal.at.returns-then-not-level g c).After-width in
    let x = c.in-Some.ensures in
    crossed (law g b) c.args.rows.now c.number-sheet.ensures c.line_after-line.ensures (cut g b) c.requires.some (sym (counted g b) ∙ c.if-len-width.false ∙ c.width.ensures) (x.0 ∙ ap (map (λ x. x.now)) c.as_slice.ensures.value) x.1 (held c.if-not-next.false c.next.ensures) (refuted c.if-not-level.true c.level.ensures)

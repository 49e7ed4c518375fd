use Rattle.std.proofs.Common.{Bool, ◌≡◌, ◌+◌, ◌-◌, ◌<◌, length, take, drop, vec_items, Decides, sym, refl, ap, subst, inl, arith}
use native.Mathlib.Nat.{sub-zero}
use Rattle.std.specs.Str.{bytes_eq}
use Rattle.std.proofs.lemmas.Slice.Eq.{bytes_eq-Decides}
use Rattle.std.proofs.lemmas.Result.{err_from_is_err_and}
use Rattle.std.proofs.lemmas.List.{take_rest}
use Rattle.sheet.specs.Sheets.{Told}
use Rattle.sheet.specs.Sheets.{LineFault, ReadsRow}
use Rattle.sheet.proofs.Lines.{differs, agrees, Sofar, one_more, counts, passes_on, begun, misnamed, unended_names}
use Rattle.sheet.proofs.read.read_rows.Given as given
use Rattle.sheet.proofs.read.read_rows.Goals as goal
use Rattle.sheet.proofs.read.read_rows.Goals.{After-ne}

module _ (g : given.Over) (c : After-ne g) where
  -- the test of the names line
  abbrev same_names : Bool
  same_names = bytes_eq (take (c.find-end.result - 0) c.args.bytes.now) c.names.result.now

  named : Decides same_names (take c.find-end.result c.args.bytes.now ≡ (g.L.Layout.sheet c.args.layout.now).names)
  named =
      subst (λ l. Decides same_names (l ≡ (g.L.Layout.sheet c.args.layout.now).names)) (ap (λ n. take n c.args.bytes.now) (sub-zero c.find-end.result))
      (subst (λ l. Decides same_names (take (c.find-end.result - 0) c.args.bytes.now ≡ l)) c.names.ensures (bytes_eq-Decides _ _))

pub returns-then-ne : goal.returns-then-ne
returns-then-ne g c _ = (
  c.number-sheet.ensures,
  misnamed c.find-end.result (g.met.L.Layout.lawful c.args.layout.now).named (omega arith) c.find-end.ensures.found c.find-end.ensures.before
      (let h = (goal.at.returns-then-ne g c).After-ne in differs (same_names g h) c.ne.ensures c.if-ne.true (named g h)),
)

pub returns-then-end-bytes : goal.returns-then-end-bytes
returns-then-end-bytes g c _ =
    (c.number-sheet.ensures, inl (refl, unended_names c.find-end.result (omega arith) (omega arith) (let h = (goal.at.returns-then-end-bytes g c).After-ne in agrees (same_names g h) c.ne.ensures c.if-ne.false (named g h))))

pub loop-rest-init : goal.loop-rest-init
loop-rest-init g c =
    let l : c.find-end.result < length c.args.bytes.now = omega (arith, c.find-end.ensures.within) in
    subst (λ t. Sofar (g.L.Layout.sheet c.args.layout.now) c.args.bytes.now (vec_items c.new-rows.result) t) (sym (take_rest c.args.bytes.now (c.find-end.result + 1)))
    (subst (λ t. Sofar (g.L.Layout.sheet c.args.layout.now) c.args.bytes.now t (drop (c.find-end.result + 1) c.args.bytes.now)) (sym c.new-rows.ensures.items)
    (begun c.find-end.result (omega arith) l (c.find-end.ensures.found l) (let h = (goal.at.loop-rest-init g c).After-ne in agrees (same_names g h) c.ne.ensures c.if-ne.false (named g h))))

pub returns-in_err-row : goal.returns-in_err-row
returns-in_err-row g c = let p = err_from_is_err_and c.from_residual.result c.from_residual.ensures.1 in rw (p.1, p.2)
    (passes_on _ c.loop-rest.invariant (subst (λ l. Told (LineFault (g.L.Layout.sheet c.args.layout.now) l c.loop-rest.rest.now (length l + 1)) c.in_err-row.field-0.0) c.as_slice.ensures.value c.in_err-row.ensures))

pub read_line-requires-clause-few : goal.read_line-requires-clause-few
read_line-requires-clause-few g c = subst (λ l. length l < 65536) (sym c.as_slice.ensures.value) (counts c.loop-rest.invariant)

pub line_after-line-requires : goal.line_after-line-requires
line_after-line-requires g c = subst (λ l. length l < 65536) (sym c.as_slice-then-not-whole.ensures.value) (counts c.loop-rest.invariant)

pub loop-rest-preserved : goal.loop-rest-preserved
loop-rest-preserved g c =
    one_more c.loop-rest.invariant
    (subst (λ l. ReadsRow (g.L.Layout.sheet c.args.layout.now) l c.loop-rest.rest.now c.in_ok-row.row c.in_ok-row.after.now) c.as_slice.ensures.value c.in_ok-row.ensures)
    c.in_ok-push.ensures.items

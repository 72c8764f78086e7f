use mathlib.Core.Path.{sym, ap, ◌∙◌}
use mathlib.Core.Logic.{inl, inr}
use mathlib.Core.List.{[], flatten}
use native.Mathlib.Omega.{arith}
use Rattle.octets.proofs.PutLaws.{put-begins, put-part, put-ends, put-length, put-nothing}
use Rattle.table.specs.Table.{table_of}
use Rattle.table.proofs.PartLaws.{place_inside, place-cells}
use Rattle.textlines.specs.Lines.{row_line}
use Rattle.textlines.specs.code.Puts.{rows_of}
use Rattle.textlines.proofs.LineLaws.{lines-on, lines-done}
use Rattle.textlines.proofs.RowLaws.{row_is, none-turned, rows-counted, rows_few, row-between}
use Rattle.textlines.proofs.lines.put_rows.Goals.{then-next-count, else-next-count}
use Rattle.textlines.proofs.lines.put_rows.Goals as goal

pub returns-in_default : goal.returns-in_default
unfolding flatten
returns-in_default c =
    let t = c.args.cells.now in
    let turned = c.in_default.ensures.answer in
    let none = none-turned (table_of t) turned in
    rw none put-nothing

pub loop-r-init : goal.loop-r-init
loop-r-init c = (omega arith, put-begins)

pub offset_bounds-starts-r : goal.offset_bounds-starts-r
offset_bounds-starts-r c = omega (arith, rows_few c.args.cells.now c.in-Ok.ensures.answer)

pub bounds-starts-r : goal.bounds-starts-r
bounds-starts-r c = omega (arith, rows_few c.args.cells.now c.in-Ok.ensures.answer)

pub offset_bounds-starts-next : goal.offset_bounds-starts-next
offset_bounds-starts-next c = omega (arith, rows_few c.args.cells.now c.in-Ok.ensures.answer)

pub bounds-starts-next : goal.bounds-starts-next
bounds-starts-next c = omega (arith, rows_few c.args.cells.now c.in-Ok.ensures.answer)

pub offset_bounds-cells-start : goal.offset_bounds-cells-start
offset_bounds-cells-start c = omega (
  arith,
  (place_inside c.args.cells.now c.loop-r.r ((row-between c.args.cells.now c.in-Ok.ensures.answer c.in-Ok.ensures.starts
      c.loop-r.r c.if-next-count.end (omega arith)
      (elim c.if-next-count.branch [ then-next-count x ↦ inl (x.if-next-count.true, x.end-is) | else-next-count x ↦ inr (x.if-next-count.false, x.end-is) ])))),
)

pub slice_bounds-put_row-count : goal.slice_bounds-put_row-count
slice_bounds-put_row-count c = ((place_inside c.args.cells.now c.loop-r.r ((row-between c.args.cells.now c.in-Ok.ensures.answer c.in-Ok.ensures.starts
    c.loop-r.r c.if-next-count.end (omega arith)
    (elim c.if-next-count.branch [ then-next-count x ↦ inl (x.if-next-count.true, x.end-is) | else-next-count x ↦ inr (x.if-next-count.false, x.end-is) ]))))).0

pub slice_bounds-put_row-start : goal.slice_bounds-put_row-start
slice_bounds-put_row-start c = ((place_inside c.args.cells.now c.loop-r.r ((row-between c.args.cells.now c.in-Ok.ensures.answer c.in-Ok.ensures.starts
    c.loop-r.r c.if-next-count.end (omega arith)
    (elim c.if-next-count.branch [ then-next-count x ↦ inl (x.if-next-count.true, x.end-is) | else-next-count x ↦ inr (x.if-next-count.false, x.end-is) ]))))).0

pub slice_bounds-put_row-end : goal.slice_bounds-put_row-end
slice_bounds-put_row-end c = ((place_inside c.args.cells.now c.loop-r.r ((row-between c.args.cells.now c.in-Ok.ensures.answer c.in-Ok.ensures.starts
    c.loop-r.r c.if-next-count.end (omega arith)
    (elim c.if-next-count.branch [ then-next-count x ↦ inl (x.if-next-count.true, x.end-is) | else-next-count x ↦ inr (x.if-next-count.false, x.end-is) ]))))).1

pub loop-r-preserved : goal.loop-r-preserved
loop-r-preserved c =
    let l = c.loop-r in
    let t = c.args.cells.now in
    let n = rows-counted t c.in-Ok.ensures.answer in
    let next = lines-on row_line [] (rows_of (table_of t)) l.r (omega arith) in
    let row = place-cells t l.r ((row-between c.args.cells.now c.in-Ok.ensures.answer c.in-Ok.ensures.starts
    c.loop-r.r c.if-next-count.end (omega arith)
    (elim c.if-next-count.branch [ then-next-count x ↦ inl (x.if-next-count.true, x.end-is) | else-next-count x ↦ inr (x.if-next-count.false, x.end-is) ]))) ∙ row_is (table_of t) l.r in
    (omega arith, put-part (rw next at l.invariant.1) (rw row at c.put_row-on.ensures))

pub shape_of-out : goal.shape_of-out
shape_of-out c = put-length c.loop-r.invariant.1.puts

pub returns : goal.returns
returns c =
    let t = c.args.cells.now in
    let n = rows-counted t c.in-Ok.ensures.answer in
    put-ends (rw (lines-done row_line [] (rows_of (table_of t)) c.loop-r.r (omega arith)) at c.loop-r.invariant.1)

use Rattle.std.proofs.Common.{◌≡◌, ℕ, ◌-◌, false, get_or, sym, ◌∙◌, ap, refl, arith}
use Rattle.cell.specs.Same.{same, among}
use Rattle.samerows.specs.Starts.{rows_but}
use Rattle.samerows.proofs.StartLaws.{none_left, left_out, found-last, not_last}
use Rattle.samerows.proofs.stands_among.Goals as goal
use Rattle.samerows.proofs.stands_among.Goals.{else-n-but-via-then-n-but+else-same_cells, else-n-but-via-else-n-but}

pub loop-n-init : goal.loop-n-init
loop-n-init c = refl

pub returns-then-same_cells : goal.returns-then-same_cells
returns-then-same_cells c =
    let a = c.args in
    let l = c.loop-n in
    let f = ap (same a.row.now) (sym c.part.ensures) ∙ sym c.same_cells.ensures ∙ c.if-same_cells.true in
    sym (found-last a.cells.now a.starts.now a.but a.row.now l.n l.end (omega arith) c.if-n-but.true f) ∙ l.invariant

pub loop-n-preserved : goal.loop-n-preserved
loop-n-preserved c =
    let a = c.args in
    let l = c.loop-n in
    let next : among a.row.now (rows_but a.cells.now a.starts.now a.but l.n l.end)
    ≡ among a.row.now (rows_but a.cells.now a.starts.now a.but (l.n - 1) (get_or a.starts.now (l.n - 1) 0)) =
    elim c.else-n-but.branch [
      | else-n-but-via-then-n-but+else-same_cells w ↦ not_last a.cells.now a.starts.now a.but a.row.now l.n l.end (omega arith)
          (ap (same a.row.now) (sym w.part.ensures) ∙ sym w.same_cells.ensures ∙ w.if-same_cells.false)
      | else-n-but-via-else-n-but w ↦ ap (among a.row.now) (left_out a.cells.now a.starts.now a.but l.n l.end (omega arith) w.if-n-but.false)
    ] in
    sym next ∙ l.invariant

pub returns : goal.returns
returns c =
    let a = c.args in
    let l = c.loop-n in
    sym (none_left a.cells.now a.starts.now a.but a.row.now l.end (omega arith)) ∙ l.invariant

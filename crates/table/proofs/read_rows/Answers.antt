use Rattle.std.proofs.Common.{◌≡◌, ◌+◌, ◌-◌, true, false, drop, refl, sym, ◌∙◌, ap, arith}
use Rattle.std.proofs.lemmas.Result.{err_from_is_err_and}
use lib.ListN.{length-set}
use Rattle.slices.specs.Slices.{between}
use Rattle.samerows.specs.Starts.{rows_but, Ascends}
use Rattle.samerows.specs.Marks.{Marked}
use Rattle.samerows.proofs.StartLaws.{row-noted, start-noted}
use Rattle.samerows.proofs.MarkLaws.{seen-here, marked_more}
use Rattle.refusal.specs.Read.{read}
use Rattle.table.specs.Table.{met, doubled, terms_from}
use Rattle.table.proofs.WholeLaws.{whole-within}
use Rattle.table.proofs.ApartLaws.{is-doubled, has-variable, none-of-them}
use Rattle.table.proofs.RowsLaws.{after, outcome-turned, after-end, next_row, rows_end, rows-extra, rows-turned, rows_same, rows-answer}
use Rattle.table.proofs.read_rows.Goals as goal
use Rattle.table.proofs.read_rows.Goals.{else-row-eq0-via-then-row-eq0+else-seen_before, else-row-eq0-via-else-row-eq0}

pub loop-n-init : goal.loop-n-init
unfolding rows_but Ascends Marked
loop-n-init c =
    let a = c.args in
    let z : a.rows - 0 ≡ a.rows = omega arith in
    record { within = omega arith; starts = refl; marks = refl; up = tt; marked = tt; rest = rw z }

pub returns-in_err-row : goal.returns-in_err-row
returns-in_err-row c =
    let a = c.args in
    let l = c.loop-n in
    let p = err_from_is_err_and c.from_residual.result c.from_residual.ensures.1 in
    rw (p.1, p.2)
    (rows-answer a.width a.rows (drop 2 a.cells.now) _ (omega arith)
    (sym (ap (after a.width l.n l.starts l.at)
    (rows-turned a.width _ a.cells.now l.at (a.rows - l.n) (omega arith) (sym c.in_err-row.ensures.0)))
    ∙ l.invariant.rest))

pub slice_bounds-seen_before-count : goal.slice_bounds-seen_before-count
slice_bounds-seen_before-count c =
    (whole-within true c.args.cells.now c.args.width c.loop-n.at c.loop-n.invariant.within (sym c.in_ok-row.ensures.0)).0

pub slice_bounds-seen_before-start : goal.slice_bounds-seen_before-start
slice_bounds-seen_before-start c =
    (whole-within true c.args.cells.now c.args.width c.loop-n.at c.loop-n.invariant.within (sym c.in_ok-row.ensures.0)).0

pub slice_bounds-seen_before-end : goal.slice_bounds-seen_before-end
slice_bounds-seen_before-end c =
    (whole-within true c.args.cells.now c.args.width c.loop-n.at c.loop-n.invariant.within (sym c.in_ok-row.ensures.0)).1

pub returns-then-seen_before : goal.returns-then-seen_before
returns-then-seen_before c =
    let a = c.args in
    let l = c.loop-n in
    let i = l.invariant in
    let r = c.in_ok-row.row in
    let seen = seen-here a.cells.now l.starts l.marks _ 64 l.n l.at r.mark (omega arith) (omega (arith, i.starts))
    (omega (arith, i.marks)) i.within i.up i.marked c.in_ok-row.ensures.1 in
    let found = sym seen ∙ sym c.seen_before.ensures ∙ c.if-seen_before.true in
    let d = is-doubled (met r.end r.vars) _ _ c.if-row-eq0.true found in
    rows-answer a.width a.rows (drop 2 a.cells.now) _ (omega arith)
    (outcome-turned _ c.turned.ensures
    ∙ sym (ap (after a.width l.n l.starts l.at)
    (rows_same a.width _ a.cells.now l.at (sym c.in_ok-row.ensures.0) (a.rows - l.n) (omega arith) d))
    ∙ i.rest)

pub loop-n-preserved : goal.loop-n-preserved
loop-n-preserved c =
    let a = c.args in
    let l = c.loop-n in
    let i = l.invariant in
    let r = c.in_ok-row.row in
    let h : terms_from true (drop l.at a.cells.now) a.width 0 0 l.at ≡ read (met r.end r.vars) = sym c.in_ok-row.ensures.0 in
    let b = whole-within true a.cells.now a.width l.at i.within h in
    let seen = seen-here a.cells.now l.starts l.marks (between l.at r.end a.cells.now) 64 l.n l.at r.mark (omega arith)
    (omega (arith, i.starts)) (omega (arith, i.marks)) i.within i.up i.marked c.in_ok-row.ensures.1 in
    let alone : doubled (met r.end r.vars) (between l.at r.end a.cells.now) (rows_but a.cells.now l.starts 64 l.n l.at) ≡ false =
    elim c.else-row-eq0.branch [ else-row-eq0-via-then-row-eq0+else-seen_before w ↦ none-of-them (met r.end r.vars) _ _ (sym seen ∙ sym w.seen_before.ensures ∙ w.if-seen_before.false) | else-row-eq0-via-else-row-eq0 w ↦ has-variable (met r.end r.vars) _ _ w.if-row-eq0.false ] in
    let m : a.rows - l.n - 1 ≡ a.rows - (l.n + 1) = omega arith in
    let s = row-noted l.starts l.n l.at (omega (arith, i.starts)) a.cells.now 64 r.end (λ z. omega arith) in
    let t = next_row a.width _ a.cells.now l.at (a.rows - l.n) l.n l.starts (omega arith) i.within h alone in
    record {
      within = b.1;
      starts = length-set l.starts l.n l.at ∙ i.starts;
      marks = length-set l.marks l.n r.mark ∙ i.marks;
      up = start-noted l.starts l.n l.at (omega (arith, i.starts)) b.0 i.up;
      marked = marked_more a.cells.now l.starts l.marks l.n l.at _ r.end (omega (arith, i.starts)) (omega (arith, i.marks)) c.in_ok-row.ensures.1 i.marked;
      rest = rw s (sym (rw m at t) ∙ i.rest);
    }

pub returns-then-at-cells : goal.returns-then-at-cells
returns-then-at-cells c =
    let a = c.args in
    let l = c.loop-n in
    let n : l.n ≡ a.rows = omega arith in
    rows-answer a.width a.rows (drop 2 a.cells.now) _ (omega arith)
    (outcome-turned _ c.turned-then-at-cells.ensures
    ∙ sym (ap (after a.width l.n l.starts l.at) (rows-extra a.width _ a.cells.now l.at {n = a.rows - l.n} (omega arith) (omega arith)))
    ∙ l.invariant.rest)

pub returns : goal.returns
returns c =
    let a = c.args in
    let l = c.loop-n in
    rows-answer a.width a.rows (drop 2 a.cells.now) _ (omega arith)
    (after-end a.width l.n l.starts l.at (omega arith)
    ∙ sym (ap (after a.width l.n l.starts l.at) (rows_end a.width _ a.cells.now l.at {n = a.rows - l.n} (omega arith) (omega arith)))
    ∙ l.invariant.rest)

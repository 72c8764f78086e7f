use Rattle.std.proofs.Common.{◌≡◌, true, false, take, sym, ◌∙◌, ap, arith}
use Rattle.std.proofs.lemmas.Result.{err_from_is_err_and}
use lib.Seq.{length-take-le}
use Rattle.refusal.specs.Read.{refuse}
use Rattle.samerows.specs.Starts.{rows_lent}
use Rattle.table.specs.Table.{met, doubled}
use Rattle.table.proofs.WholeLaws.{whole-within}
use Rattle.table.proofs.ApartLaws.{is-doubled, has-variable, none-of-them}
use Rattle.table.proofs.TableLaws.{row-turned, row_same, row-extra, row-whole}
use Rattle.table.proofs.row_beside.Goals as goal
use Rattle.table.proofs.row_beside.Goals.{else-read-eq0-via-then-read-eq0+else-stands_among, else-read-eq0-via-else-read-eq0}

pub returns-in_err-read : goal.returns-in_err-read
returns-in_err-read c =
    let p = err_from_is_err_and c.from_residual.result c.from_residual.ensures.1 in
    rw (p.1, p.2) (sym (row-turned _ _ _ (sym c.in_err-read.ensures.0)))

pub slice_bounds-stands_among-end : goal.slice_bounds-stands_among-end
slice_bounds-stands_among-end c =
    sym (length-take-le _ _ (whole-within true c.args.row.now _ 0 (omega arith) (sym c.in_ok-read.ensures.0)).1)

pub returns-then-stands_among : goal.returns-then-stands_among
returns-then-stands_among c =
    let r = c.in_ok-read.read in
    let d = is-doubled (met r.end r.vars) _ _ c.if-read-eq0.true (sym c.stands_among.ensures ∙ c.if-stands_among.true) in
    ap refuse c.refusal.ensures ∙ sym (row_same _ _ _ (sym c.in_ok-read.ensures.0) d)

pub returns-then-read-row : goal.returns-then-read-row
returns-then-read-row c =
    let a = c.args in
    let r = c.in_ok-read.read in
    let alone : doubled (met r.end r.vars) (take r.end a.row.now) (rows_lent a.cells.now a.starts.now a.but) ≡ false =
    elim c.else-read-eq0.branch [ else-read-eq0-via-then-read-eq0+else-stands_among w ↦ none-of-them (met r.end r.vars) _ _ (sym w.stands_among.ensures ∙ w.if-stands_among.false) | else-read-eq0-via-else-read-eq0 w ↦ has-variable (met r.end r.vars) _ _ w.if-read-eq0.false ] in
    ap refuse c.refusal-then-read-row.ensures ∙ sym (row-extra _ _ _ (sym c.in_ok-read.ensures.0) alone (omega arith))

pub returns : goal.returns
returns c =
    let a = c.args in
    let r = c.in_ok-read.read in
    let alone : doubled (met r.end r.vars) (take r.end a.row.now) (rows_lent a.cells.now a.starts.now a.but) ≡ false =
    elim c.else-read-eq0.branch [ else-read-eq0-via-then-read-eq0+else-stands_among w ↦ none-of-them (met r.end r.vars) _ _ (sym w.stands_among.ensures ∙ w.if-stands_among.false) | else-read-eq0-via-else-read-eq0 w ↦ has-variable (met r.end r.vars) _ _ w.if-read-eq0.false ] in
    sym (row-whole _ _ _ (sym c.in_ok-read.ensures.0) alone (omega arith))

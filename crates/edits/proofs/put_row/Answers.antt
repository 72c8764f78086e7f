use Rattle.std.proofs.Common.{refl, sym, arith}
use Rattle.std.proofs.lemmas.Result.{err_from_is_err_and}
use lib.Seq.{length-take-le}
use Rattle.edits.proofs.PutLaws.{enough, joins, size_small, ready, row_put, row-turned}
use Rattle.edits.proofs.put_row.Goals as goal

pub slice_bounds-row_beside-end : goal.slice_bounds-row_beside-end
slice_bounds-row_beside-end c = sym (length-take-le _ _ (enough c.requires))

pub returns-in_err-row_beside : goal.returns-in_err-row_beside
returns-in_err-row_beside c =
    let p = err_from_is_err_and c.from_residual.result c.from_residual.ensures.1 in
    rw (p.1, p.2) (λ g figure e x m. row-turned g c.table_of-cells.ensures _ _ c.row_beside.ensures c.in_err-row_beside.was m)

pub join-size-requires : goal.join-size-requires
join-size-requires c = joins c.requires c.table_of-cells.ensures _ _ c.row_beside.ensures c.in_ok-row_beside.was refl

pub work_again-requires : goal.work_again-requires
work_again-requires c =
    let g = c.requires in
    let o = c.table_of-cells.ensures in
    let j = joins g o _ _ c.row_beside.ensures c.in_ok-row_beside.was refl in
    (size_small g o _ _ c.row_beside.ensures c.in_ok-row_beside.was refl (c.join-size.ensures j), g.low)

pub returns : goal.returns
returns c =
    let o = c.table_of-cells.ensures in
    λ g figure e x m.
    let s = c.row_beside.ensures in
    let q = c.in_ok-row_beside.was in
    row_put g o _ _ s q m
    (c.work_again.ensures figure g.rows.table c.args.row.now x
    (ready g o _ _ s q refl (c.join-size.ensures (joins g o _ _ s q refl))))

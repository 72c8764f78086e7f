use mathlib.Core.Path.{◌≡◌, sym}
use Rattle.refusal.specs.Refusal.{reason_number}
use native.Mathlib.Omega.{arith}
use lib.Seq.{length-take-le}
use Rattle.mending.proofs.NextSaid.{on-accepted, extra-place, on-extra, on-other}
use Rattle.mending.proofs.next_row.Goals as goal

pub slice_bounds-row_beside-end : goal.slice_bounds-row_beside-end
slice_bounds-row_beside-end c = sym (length-take-le _ _ c.requires)

pub overflow_add-result : goal.overflow_add-result
overflow_add-result c =
    let extra : reason_number c.in-Err.f.reason ≡ 9 = omega (arith, c.number_of.ensures.0) in
    omega (arith, extra-place c.args.width c.args.at c.args.cells.now c.args.starts.now c.requires c.row_beside.result c.row_beside.ensures c.in-Err.is extra)

pub returns-in-Ok : goal.returns-in-Ok
returns-in-Ok c =
    on-accepted c.args.width c.args.at c.args.cells.now c.args.starts.now c.requires c.row_beside.result c.row_beside.ensures c.in-Ok.is

pub returns-then-number_of-eq9 : goal.returns-then-number_of-eq9
returns-then-number_of-eq9 c =
    let extra : reason_number c.in-Err.f.reason ≡ 9 = omega (arith, c.number_of.ensures.0) in
    on-extra c.args.width c.args.at c.args.cells.now c.args.starts.now c.requires c.row_beside.result c.row_beside.ensures c.in-Err.is extra

pub returns-else-number_of-eq9 : goal.returns-else-number_of-eq9
returns-else-number_of-eq9 c =
    on-other c.args.width c.args.at c.args.cells.now c.args.starts.now c.requires c.row_beside.result c.row_beside.ensures c.in-Err.is
    (λ e. omega (arith, c.number_of.ensures.0, e))

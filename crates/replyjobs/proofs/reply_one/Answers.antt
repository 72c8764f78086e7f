use mathlib.Core.Path.{sym, ap}
use native.Mathlib.Omega.{arith}
use lib.Seq.{length-take-le}
use Rattle.instance.specs.declared.ReplyJob.{ReplyJob}
use Rattle.shift.proofs.JobsLaws.{hits-rise}
use Rattle.replies.proofs.AskedLaws.{found-by}
use Rattle.replyjobs.proofs.OneLaws.{held_by, job-goal, past, refused-alone, placed-alone}
use Rattle.replyjobs.proofs.reply_one.Goals as goal

pub returns-then-cells-start : goal.returns-then-cells-start
returns-then-cells-start c =
    let a = c.args in
    λ plan before h s l. past a.cells.now a.room.now a.on a.j (omega arith) c.refused.ensures

pub returns-then-cells-start-2 : goal.returns-then-cells-start-2
returns-then-cells-start-2 c =
    let a = c.args in
    λ plan before h s l. past a.cells.now a.room.now a.on a.j (omega arith) c.refused-then-cells-start-2.ensures

-- what a run has found is at most 64 rows
pub returns-then-hits-gt-ROWS : goal.returns-then-hits-gt-ROWS
returns-then-hits-gt-ROWS c =
    let a = c.args in
    λ plan before h s l.
    let x = c.run_noted.ensures a.table.now plan before h in
    let e = (hits-rise (omega arith) x c.in-Ok.is).few in
    absurd (let z : ⊥ = omega (arith, e, c.if-hits-gt-ROWS.true) in z)

pub slice_bounds-put_one-end : goal.slice_bounds-put_one-end
slice_bounds-put_one-end c = sym (length-take-le _ _ (omega arith))

pub returns-in-Err : goal.returns-in-Err
returns-in-Err c =
    let a = c.args in
    λ plan before h s l.
    refused-alone a.cells.now a.room.now a.on a.j (omega arith) (job-goal a.cells.now a.j)
    (c.run_noted.ensures a.table.now plan before h) c.in-Err.is c.refused-in-Err.ensures

pub returns-else-hits-gt-ROWS : goal.returns-else-hits-gt-ROWS
returns-else-hits-gt-ROWS c =
    let a = c.args in
    let d = c.in-Ok.is in
    λ plan before h s l.
    let x = c.run_noted.ensures a.table.now plan before h in
    let e = ap (λ (i : ReplyJob). i.at) c.found-one.ensures in
    let o = c.put_one.ensures plan (held_by h s d x) (found-by d x (omega arith)).0 (omega (arith, l, e)) in
    placed-alone a.cells.now a.room.now a.on a.j (omega arith) (job-goal a.cells.now a.j) x d
    (c.bits.ensures (hits-rise (omega arith) x d)) c.found-one.ensures o

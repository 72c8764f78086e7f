use Rattle.std.proofs.lemmas.Result.{err_from_is_err_and}
use mathlib.Core.Path.{refl}
use native.Mathlib.Omega.{arith}
use lib.ListN.{replicate}
use Rattle.goaltext.proofs.AskedLaws.{accepted-read, goal-few, put-accepted, put_refused}
use borrow.Author.Rules.{rules}
use Rattle.goaltext.proofs.put_goal.Goals as goal

pub number_names-k-requires : goal.number_names-k-requires
number_names-k-requires c =
    let f = goal-few c.args.width c.args.row.now (accepted-read c.args.width c.args.row.now c.goal_for.ensures c.in_ok-size.was).1 in
    (omega arith, omega arith, omega arith, omega arith)

pub put_cells-requires : goal.put_cells-requires
put_cells-requires c =
    let f = goal-few c.args.width c.args.row.now (accepted-read c.args.width c.args.row.now c.goal_for.ensures c.in_ok-size.was).1 in
    search rules

pub returns : goal.returns
returns c =
    let a = c.args in
    put-accepted a.text.now a.names.now a.width a.whole.now a.row.now a.list.now
    c.goal_for.ensures
    {zeros = replicate 32 0} c.in_ok-size.was c.requires.1 refl (omega arith) c.number_names-k.ensures c.put_cells.ensures

pub returns-in_err-size : goal.returns-in_err-size
returns-in_err-size c =
    let a = c.args in
    let p = err_from_is_err_and c.from_residual.result c.from_residual.ensures.1 in
    rw (p.1, p.2) (put_refused a.text.now a.names.now a.width a.whole.now a.row.now a.list.now c.goal_for.ensures c.in_err-size.was)

-- `replies` meets its contract: the run finds the hits, and refuses table, plan and goal.
use mathlib.Core.Path.{sym}
use native.Mathlib.Omega.{arith}
use lib.Seq.{length-take-le}
use Rattle.std.proofs.lemmas.Result.{err_from_is_err_and}
use Rattle.replies.proofs.AskedLaws.{refused-by, found-by}
use Rattle.replies.proofs.replies.Goals as goal

pub slice_bounds-hits-end : goal.slice_bounds-hits-end
slice_bounds-hits-end c = (found-by c.in_ok-ran.was c.run_plan.ensures (omega arith)).1

pub slice_bounds-reply_all-end : goal.slice_bounds-reply_all-end
slice_bounds-reply_all-end c =
    sym (length-take-le _ _ (found-by c.in_ok-ran.was c.run_plan.ensures (omega arith)).1)

pub returns-in_err-ran : goal.returns-in_err-ran
returns-in_err-ran c =
    let p = err_from_is_err_and c.from_residual.result c.from_residual.ensures.1 in
    rw (p.1, p.2) (refused-by c.in_err-ran.was c.run_plan.ensures (omega arith))

pub returns : goal.returns
returns c =
    c.reply_all.ensures _ (found-by c.in_ok-ran.was c.run_plan.ensures (omega arith)).0

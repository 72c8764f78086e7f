use Rattle.dudowiej.proofs.CodeLaws.{coded_by, plan-by}
use Rattle.dudowiej.proofs.Small.{reply-jobs-small}
use Rattle.dudowiej.proofs.dudowiej_reply_jobs.Goals as goal

pub returns : goal.returns
returns c =
    let r = c.reply_jobs in
    record { answer = r.result; ran = rw c.table_of-table.ensures at r.ensures; code = coded_by (plan-by r.result) (reply-jobs-small r.ensures) c.as_number.ensures }

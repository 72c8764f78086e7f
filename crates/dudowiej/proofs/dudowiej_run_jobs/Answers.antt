use Rattle.dudowiej.proofs.CodeLaws.{coded_by, plan-by}
use Rattle.checker.specs.Checked.{plan_told}
use Rattle.dudowiej.proofs.Small.{jobs-small}
use Rattle.dudowiej.proofs.dudowiej_run_jobs.Goals as goal

pub returns : goal.returns
returns c =
    let r = c.run_jobs in
    record { told = plan_told r.result; ran = rw c.table_of-table.ensures at r.ensures; code = coded_by (plan-by r.result) (jobs-small r.ensures) c.as_number.ensures }

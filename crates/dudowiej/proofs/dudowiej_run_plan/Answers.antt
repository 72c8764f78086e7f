use Rattle.dudowiej.proofs.CodeLaws.{coded_by, run-by}
use Rattle.dudowiej.proofs.Small.{run_small}
use Rattle.dudowiej.proofs.dudowiej_run_plan.Goals as goal

pub returns : goal.returns
returns c =
    let r = c.run_plan in
    let t = c.table_of-cells in
    record { answer = r.result; ran = rw t.ensures at r.ensures; code = coded_by (run-by r.result) (run_small r.ensures) c.as_number.ensures }

use Rattle.table.specs.Table.{table_told}
use Rattle.dudowiej.proofs.CodeLaws.{coded_by, table-by}
use Rattle.dudowiej.proofs.Small.{work-small}
use Rattle.dudowiej.proofs.dudowiej_work_out.Goals as goal

pub returns : goal.returns
returns c =
    let r = c.work_out in
    record { told = table_told r.result; worked = r.ensures; code = coded_by (table-by r.result) (work-small r.ensures) c.as_number.ensures }

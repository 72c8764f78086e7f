use Rattle.table.specs.Table.{table_told}
use Rattle.dudowiej.proofs.CodeLaws.{coded_by, table-by}
use Rattle.dudowiej.proofs.Small.{edit-small}
use Rattle.dudowiej.proofs.dudowiej_drop_last.Goals as goal

pub returns : goal.returns
returns c =
    λ figure T x. let r = c.drop_last.result in
    let e = c.drop_last.ensures figure T x in
    record { told = table_told r; edited = e; code = coded_by (table-by r) (edit-small e) c.as_number.ensures }

use Rattle.std.proofs.lemmas.Result.{err_from_is_err_and}
use Rattle.prolog.proofs.EntryLaws.{table-accepted, table-refused}
use Rattle.prolog.proofs.give.Goals as goal

pub returns-in_err-read_table : goal.returns-in_err-read_table
returns-in_err-read_table c =
    let a = c.args in
    let p = err_from_is_err_and c.from_residual.result c.from_residual.ensures.1 in
    rw (p.1, p.2) (table-refused a.made.now a.list.now a.cells.now a.names.now c.in_err-read_table.field-0.0 c.in_err-read_table.ensures.answer)

pub returns : goal.returns
returns c =
    let a = c.args in
    table-accepted a.made.now a.list.now a.cells.now a.names.now c.put_front.new.room c.put_front-2.new.room c.in_ok-read_table.field-0
    c.in_ok-read_table.ensures.answer c.put_front.ensures c.put_front-2.ensures

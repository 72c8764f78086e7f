use Rattle.std.proofs.Common.{refl, ap, arith}
use Rattle.refusal.specs.Refusal.{turned}
use Rattle.state.proofs.FirstLaws.{table-rows}
use Rattle.edits.proofs.TableLaws.{no_table}
use Rattle.edits.proofs.EditedLaws.{placed, full, appended}
use Rattle.edits.proofs.append.Goals as goal

pub returns-in_err-read : goal.returns-in_err-read
returns-in_err-read c = λ figure T x. no_table c.table_of.ensures c.read_table.ensures c.in_err-read.was x

pub returns-then-read-ge-ROWS : goal.returns-then-read-ge-ROWS
returns-then-read-ge-ROWS c =
    let k = table-rows _ c.read_table.ensures c.in_ok-read.was in
    λ figure T x. full c.table_of.ensures k x _ c.if-read-ge-ROWS.true (ap turned c.turned_away.ensures)

pub put_row-requires : goal.put_row-requires
put_row-requires c =
    placed c.table_of.ensures (table-rows _ c.read_table.ensures c.in_ok-read.was) c.in_ok-read.read.rows (omega arith) c.if-read-ge-ROWS.false

pub returns : goal.returns
returns c =
    let k = table-rows _ c.read_table.ensures c.in_ok-read.was in
    λ figure T x. appended c.table_of.ensures k x _ (omega arith) c.if-read-ge-ROWS.false c.put_row.ensures refl

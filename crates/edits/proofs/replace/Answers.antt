use Rattle.std.proofs.Common.{ap, arith}
use Rattle.refusal.specs.Refusal.{turned}
use Rattle.state.proofs.FirstLaws.{table-rows, few-rows}
use Rattle.edits.proofs.TableLaws.{no_table}
use Rattle.edits.proofs.EditedLaws.{placed, no_row, replaced}
use Rattle.edits.proofs.replace.Goals as goal

pub returns-in_err-read : goal.returns-in_err-read
returns-in_err-read c = λ figure T x. no_table c.table_of.ensures c.read_table.ensures c.in_err-read.was x

pub returns-then-read-r : goal.returns-then-read-r
returns-then-read-r c =
    let k = table-rows _ c.read_table.ensures c.in_ok-read.was in
    λ figure T x. no_row c.table_of.ensures k x _ c.args.r c.if-read-r.true (ap turned c.turned_away.ensures)

pub put_row-requires : goal.put_row-requires
put_row-requires c =
    let k = table-rows _ c.read_table.ensures c.in_ok-read.was in
    placed c.table_of.ensures k c.args.r (omega arith) (omega (arith, few-rows k))

pub returns : goal.returns
returns c =
    let k = table-rows _ c.read_table.ensures c.in_ok-read.was in
    let few = few-rows k in
    λ figure T x. replaced c.table_of.ensures k x _ (omega arith) (omega (arith, few)) c.put_row.ensures c.if-read-r.false

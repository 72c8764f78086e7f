use Rattle.std.proofs.Common.{ℕ, ◌-◌, ◌≤◌, ◌<◌, ap, get_or, length, arith, rules}
use Rattle.refusal.specs.Refusal.{turned}
use Rattle.state.proofs.FirstLaws.{table-rows, few-rows}
use Rattle.record.proofs.StoreLaws.{lent-long}
use Rattle.edits.proofs.TableLaws.{no_table, few-cells, start-within}
use Rattle.edits.proofs.DropLaws.{only_row, last-dropped}
use Rattle.edits.proofs.drop_last.Goals as goal

pub returns-in_err-read : goal.returns-in_err-read
returns-in_err-read c = λ figure T x. no_table c.table_of-cells.ensures c.read_table.ensures c.in_err-read.was x

pub returns-then-read-le1 : goal.returns-then-read-le1
returns-then-read-le1 c =
    let k = table-rows _ c.read_table.ensures c.in_ok-read.was in
    λ figure T x. only_row c.table_of-cells.ensures k x c.if-read-le1.true (ap turned c.turned_away.ensures)

pub offset_bounds-read-last : goal.offset_bounds-read-last
offset_bounds-read-last c = omega (arith, few-rows (table-rows _ c.read_table.ensures c.in_ok-read.was))

pub bounds-read-last : goal.bounds-read-last
bounds-read-last c = omega (arith, few-rows (table-rows _ c.read_table.ensures c.in_ok-read.was))

pub overflow_add-start : goal.overflow_add-start
overflow_add-start c =
    let k = table-rows _ c.read_table.ensures c.in_ok-read.was in
    omega (arith, start-within k (c.in_ok-read.read.rows - 1) (omega arith), few-cells k)

pub clear-requires : goal.clear-requires
clear-requires c =
    let k = table-rows _ c.read_table.ensures c.in_ok-read.was in
    let b = start-within k (c.in_ok-read.read.rows - 1) (omega arith) in
    let f = few-cells k in
    (omega (arith, b, f), omega (arith, f))

pub clear_pairs-requires : goal.clear_pairs-requires
clear_pairs-requires c =
    let few = few-rows (table-rows _ c.read_table.ensures c.in_ok-read.was) in
    (lent-long c.clear.new.out (omega arith), omega (arith, few))

pub put-requires : goal.put-requires
put-requires c =
    let k = table-rows _ c.read_table.ensures c.in_ok-read.was in
    let b = start-within k (c.in_ok-read.read.rows - 1) (omega arith) in
    (search rules, omega (arith, b, few-cells k))

pub put-requires-2 : goal.put-requires-2
put-requires-2 c =
    let few = few-rows (table-rows _ c.read_table.ensures c.in_ok-read.was) in
    (search rules, omega (arith, few))

pub returns : goal.returns
returns c =
    let k = table-rows _ c.read_table.ensures c.in_ok-read.was in
    λ figure T x. last-dropped c.table_of-cells.ensures k x c.if-read-le1.false c.clear.ensures c.clear_pairs.ensures c.put.ensures c.put-2.ensures

use Rattle.std.proofs.Common.{length, get_or, arith}
use Rattle.limits.specs.Limits.{most_table_cells}
use Rattle.table.proofs.ReadLaws.{outside, within-bounds}
use Rattle.table.proofs.TableLaws.{table-length, table-width, table-count, table-rows}
use Rattle.table.proofs.RowsLaws.{table-refused}
use Rattle.table.proofs.read_table.Goals as goal

pub returns-then-cells-lt2 : goal.returns-then-cells-lt2
returns-then-cells-lt2 c =
    let t = c.args.cells.now in
    table-refused _ c.turned.ensures (table-length t (outside (length t) 2 most_table_cells c.then-cells-lt2.either))

pub returns-then-width-lt1 : goal.returns-then-width-lt1
returns-then-width-lt1 c =
    let t = c.args.cells.now in
    table-refused _ c.turned-then-width-lt1.ensures
    (table-width t (within-bounds (length t) 2 most_table_cells (omega arith) (omega arith)) (outside (get_or t 0 0) 1 8 c.then-width-lt1.either))

pub returns-then-rows-lt1 : goal.returns-then-rows-lt1
returns-then-rows-lt1 c =
    let t = c.args.cells.now in
    table-refused _ c.turned-then-rows-lt1.ensures
    (table-count t (within-bounds (length t) 2 most_table_cells (omega arith) (omega arith)) (within-bounds (get_or t 0 0) 1 8 (omega arith) (omega arith))
    (outside (get_or t 1 0) 1 64 c.then-rows-lt1.either))

pub returns : goal.returns
returns c =
    let t = c.args.cells.now in
    rw (table-rows t (within-bounds (length t) 2 most_table_cells (omega arith) (omega arith)) (within-bounds (get_or t 0 0) 1 8 (omega arith) (omega arith))
    (within-bounds (get_or t 1 0) 1 64 (omega arith) (omega arith))) c.read_rows.ensures

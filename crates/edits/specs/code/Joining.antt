-- One row is put into a table.
use Rattle.std.specs.Prelude.{ℕ, ◌≤◌, ◌<◌, ◌≡◌, List, length, replicate}
use Rattle.refusal.specs.Read.{read}
use Rattle.table.specs.Table.{Table, table_of, others, Row, Apart}
use Rattle.state.specs.code.First.{TableRows}
use Rattle.record.specs.Record.{cells_in, table_in}
use Rattle.record.specs.code.Rows.{in_room, table_with}
use Rattle.edits.specs.declared.rows.Place.{Place}
use Rattle.limits.specs.Limits.{most_rows, most_table_cells}

-- what is given where a row is put: a table that is read, and a row for it beside its other rows, at a place where there is one or after
-- the last
pub record Joins (cells row starts : List ℕ) (at : Place) (next : List ℕ) : Type 0 where
  pub rows : TableRows cells starts at.width at.count
  pub there : at.number ≤ at.count
  pub low : at.number < most_rows
  pub is_row : Row rows.table.width row
  pub apart : Apart (others at.number rows.table.rows) row
  pub empty : next ≡ replicate most_table_cells 0

-- the cells of the table with the row, in their room, and how many they are
pub record Joined {cells row starts : List ℕ} {at : Place} {next : List ℕ} (g : Joins cells row starts at next) (new : List ℕ) (size : ℕ)
    : Type 0 where
  pub is : new ≡ in_room (cells_in (table_with g.rows.table at.number row))
  pub many : size ≡ length (cells_in (table_with g.rows.table at.number row))

-- a place where a row is put, in the table of a record
pub record Placed (rec starts : List ℕ) (at : Place) : Type 0 where
  pub rows : TableRows (table_in rec) starts at.width at.count
  pub there : at.number ≤ at.count
  pub low : at.number < most_rows

-- a table's cells with one row put are ready in their room, and are a table again
pub record Ready (T : Table) (r : ℕ) (row next : List ℕ) (size : ℕ) : Type 0 where
  pub there : r ≤ length T.rows
  pub accepted : table_of (cells_in (table_with T r row)) ≡ read (table_with T r row)
  pub is : next ≡ in_room (cells_in (table_with T r row))
  pub many : size ≡ length (cells_in (table_with T r row))

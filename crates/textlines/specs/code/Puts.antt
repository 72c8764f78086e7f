-- What the private functions answer.
use Rattle.std.specs.Prelude.{ℕ, ◌*◌, ◌≤◌, List, [], ◌++◌, length}
use Rattle.refusal.specs.Read.{Read, read, refuse}
use Rattle.octets.specs.Octets.{Put}
use Rattle.table.specs.Table.{Table, table_of}
use Rattle.textlines.specs.Lines.{heading, row_lines, name_lines}

-- a table's rows; cells that are no table have none
abbrev pub rows_of : Read Table → List (List ℕ)
rows_of (read T) = T.rows
rows_of (refuse f) = []

-- 43,030 bytes are enough: 22 for the heading, 9 for each of at most 2,048 symbols, 12 for each of at most 2,048 names
abbrev pub most : ℕ
most = 43030

-- the names' lines are put, 12 bytes at most for each
pub record PutsNames (names old new : List ℕ) (to r : ℕ) : Type 0 where
  pub puts : Put old new to (name_lines names) r
  pub few : length (name_lines names) ≤ 12 * length names

-- all lines are put at the front
pub record PutsTable (cells names old new : List ℕ) (r : ℕ) : Type 0 where
  pub puts : Put old new 0 (heading (length cells) (length names) ++ (row_lines (rows_of (table_of cells)) ++ name_lines names)) r
  pub few : length (name_lines names) ≤ 12 * length names

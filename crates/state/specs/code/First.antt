use Rattle.std.specs.Prelude.{◌≡◌, ℕ, List, length}
use Rattle.refusal.specs.Read.{read}
use Rattle.table.specs.Table.{Table, table_of, starts_in}

-- a table that is read, as the code has it: where its rows start, its width, its number of rows
pub record TableRows (t ss : List ℕ) (w n : ℕ) : Type 0 where
  pub table : Table
  pub here : table_of t ≡ read table
  pub starts : ss ≡ starts_in (read table)
  pub width : w ≡ table.width
  pub rows : n ≡ length table.rows

-- A table's cells in their room, and a table with one row put.
use Rattle.std.specs.Prelude.{ℕ, suc, ◌-◌, List, ◌∷◌, ◌++◌, length, take, drop, replicate}
use Rattle.refusal.specs.Read.{Read, read, and_then}
use Rattle.table.specs.Table.{Table, table, others, row_of}
use Rattle.limits.specs.Limits.{most_table_cells}

-- a table's cells in the room that a record has for them, with 0 behind
abbrev pub in_room : List ℕ → List ℕ
in_room cells = cells ++ replicate (most_table_cells - length cells) 0

-- rows with one put at a place: instead of the row that is there, or after the last
abbrev pub with_row : List (List ℕ) → ℕ → List ℕ → List (List ℕ)
with_row rows r row = take r rows ++ row ∷ drop (suc r) rows

abbrev pub table_with : Table → ℕ → List ℕ → Table
table_with T r row = table T.width (with_row T.rows r row)

-- what is read where the row is: its refusals beside the other rows, or the table with it
abbrev pub put_row : Table → ℕ → List ℕ → Read Table
put_row T r row = and_then (row_of T.width (others r T.rows) row) (λ (_ : ℕ). read (table_with T r row))

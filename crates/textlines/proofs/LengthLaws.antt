-- How long the lines are: 43,030 bytes are enough for every text.
use mathlib.Core.Path.{◌≡◌, ap, ◌∙◌}
use mathlib.Core.List.{List, [], ◌∷◌, ◌++◌, flatten}
use Prim.Native.Nat.{ℕ, suc, ◌+◌, ◌*◌, ◌/◌, ◌%◌, ◌^◌, ◌≤◌, ◌<◌}
use native.Mathlib.Omega.{arith}
use lib.ListN.{length, get_or, length-append}
use Rattle.octets.proofs.DecimalLaws.{digits-few}
use Rattle.printing.specs.Printing.{symbol_text}
use Rattle.printing.proofs.LengthLaws.{symbol-few}
use Rattle.refusal.specs.Read.{read}
use Rattle.table.specs.Table.{Table, table_of}
use Rattle.table.proofs.Accepted.{is-table, table-short}
use Rattle.loading.specs.Load.{Loaded}
use Rattle.textlines.specs.Lines.{heading, mark, row_line, row_lines, name_line, name_lines, lines_of}
use Rattle.textlines.specs.code.Puts.{most}

-- a heading has at most 22 bytes: `cells 2050 names 2048`
heading-few : (cells names : ℕ) → cells < 10000 → names < 10000 → length (heading cells names) ≤ 22
unfolding heading
heading-few cells names hc hn = simp length-append (omega (arith, digits-few 3 cells hc, digits-few 3 names hn))

-- a row at most 9 for each cell
row-few : (row : List ℕ) → length (row_line row) ≤ 9 * length row
unfolding row_line
row-few [] = omega arith
row-few (c ∷ row) = omega (arith, row-few row, symbol-few c, length-append (symbol_text c) (mark (length row) ∷ row_line row))

rows_few : (rows : List (List ℕ)) → length (row_lines rows) ≤ 9 * length (flatten rows)
unfolding flatten
rows_few [] = omega arith
rows_few (row ∷ rows) =
    omega (arith, row-few row, rows_few rows, length-append (row_line row) (row_lines rows), length-append row (flatten rows))

-- a name's line at most 12: `65535 65535`
name-few : (name : ℕ) → name < 2 ^ 32 → length (name_line name) ≤ 12
unfolding name_line
name-few name h = simp length-append (omega (arith, digits-few 4 (name % 2 ^ 16) (omega arith), digits-few 4 (name / 2 ^ 16) (omega arith)))

pub names-few : (names : List ℕ) → ((i : ℕ) → get_or names i 0 < 2 ^ 32) → length (name_lines names) ≤ 12 * length names
unfolding flatten
names-few [] h = omega arith
names-few (name ∷ names) h =
    omega (arith, name-few name (h 0), names-few names (λ i. h (suc i)), length-append (name_line name) (name_lines names))

-- a table has at most 2,048 symbols, and a text no more names than those
pub lines-few : (x : Loaded) (T : Table) → table_of x.cells ≡ read T → length x.names + 2 ≤ length x.cells
    → length (name_lines x.names) ≤ 12 * length x.names → length (lines_of x T) ≤ most
lines-few x T e h l =
    let short = table-short x.cells e in
    let cells : length x.cells ≡ 2 + length (flatten T.rows) = ap length (is-table x.cells e).cells ∙ omega arith in
    omega (
      arith,
      heading-few (length x.cells) (length x.names) (omega arith) (omega arith),
      rows_few T.rows,
      length-append (heading (length x.cells) (length x.names)) (row_lines T.rows ++ name_lines x.names),
      length-append (row_lines T.rows) (name_lines x.names),
    )

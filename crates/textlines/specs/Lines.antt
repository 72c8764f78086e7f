-- What is printed for a text (02, W-201), as ASCII bytes: the table and the names that the entry writes, or the line of its refusal.
use Rattle.std.specs.Prelude.{ℕ, zero, suc, ◌/◌, ◌%◌, ◌^◌, ◌≡◌, length}
use mathlib.Core.List.{List, [], ◌∷◌, ◌++◌, map, flatten}
use Rattle.refusal.specs.Refusal.{Refused}
use Rattle.refusal.specs.Read.{read, refuse}
use Rattle.octets.specs.Octets.{decimal, field}
use Rattle.printing.specs.Printing.{space, feed, symbol_text, refusal}
use Rattle.table.specs.Table.{Table, table_of}
use Rattle.loading.specs.Load.{Loaded, Loads}

-- `cells `, ` names `
abbrev pub cells_word : List ℕ
cells_word = 99 ∷ 101 ∷ 108 ∷ 108 ∷ 115 ∷ 32 ∷ []

abbrev pub names_word : List ℕ
names_word = 32 ∷ 110 ∷ 97 ∷ 109 ∷ 101 ∷ 115 ∷ 32 ∷ []

-- the entry's two values: `cells 11 names 3`
unfoldable pub heading : (cells names : ℕ) → List ℕ
heading cells names = cells_word ++ (decimal cells ++ (names_word ++ field names feed))

-- a row in the listing's symbols: after each of them a space, and a line feed after the last. No row of a table is empty
abbrev pub mark : (left : ℕ) → ℕ
mark zero = feed
mark (suc left) = space

unfoldable pub row_line : List ℕ → List ℕ
row_line [] = []
row_line (cell ∷ row) = symbol_text cell ++ (mark (length row) ∷ row_line row)

abbrev pub row_lines : List (List ℕ) → List ℕ
row_lines rows = flatten (map row_line rows)

-- "where each name first stands in the text, start and bytes": the list has the start in bits 15..0 and the bytes in bits 31..16
unfoldable pub name_line : ℕ → List ℕ
name_line name = field (name % 2 ^ 16) space ++ field (name / 2 ^ 16) feed

abbrev pub name_lines : List ℕ → List ℕ
name_lines names = flatten (map name_line names)

-- the cells and names written, the rows, the names in the order of their numbers
abbrev pub lines_of : Loaded → Table → List ℕ
lines_of x T = heading (length x.cells) (length x.names) ++ (row_lines T.rows ++ name_lines x.names)

-- The rooms that are lent to the entry. A text of 65,535 bytes has at most 32,766 symbols, so that no text needs more and ROOM is never
-- printed: proofs/Enough. A text whose table is too long prints LENGTH, as its cells would as a table
abbrev pub cell_room : ℕ
cell_room = 32768

abbrev pub name_room : ℕ
name_room = 32766

-- what is printed: what the entry answers with these rooms
pub data Prints (text : List ℕ) : List ℕ → Type 0 where
  refused : (f : Refused) → Loads text cell_room name_room (refuse f) → Prints text (refusal f.number f.place)
  printed : (x : Loaded) (T : Table) → Loads text cell_room name_room (read x) → table_of x.cells ≡ read T → Prints text (lines_of x T)

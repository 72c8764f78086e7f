-- The parts of a record: how many cells, the figure, the cells with 0 behind them, what is kept.
use mathlib.Core.Path.{◌≡◌, refl, sym, ap, ap₂, ◌∙◌}
use mathlib.Core.List.{List, ◌∷◌, ◌++◌, append_assoc}
use Prim.Native.Nat.{ℕ, ◌+◌, ◌-◌, ◌≤◌}
use native.Mathlib.Omega.{arith}
use borrow.Author.Tests.{le-ltb}
use lib.ListN.{length, get_or, take, drop, replicate, length-append, length-replicate, take-append-drop, length-drop}
use lib.Seq.{slice-cons, take_at, drop_at}
use Rattle.refusal.specs.Read.{read}
use Rattle.table.specs.Table.{Table, table_of}
use Rattle.table.proofs.Accepted.{table-short}
use Rattle.term.proofs.Lists.{slice-take}
use Rattle.least.specs.Measures.{work}
use Rattle.record.specs.Record.{cells_in, Kept, Holds, table_in}
use Rattle.record.specs.code.Rows.{in_room}
use Rattle.record.proofs.KeptLaws.{kept-one}
use Rattle.limits.specs.Limits.{kept_cells, most_table_cells}

pub length-room : (cells : List ℕ) → length cells ≤ most_table_cells → length (in_room cells) ≡ most_table_cells
length-room cells h =
    length-append cells (replicate (most_table_cells - length cells) 0) ∙ omega (arith, length-replicate {A = ℕ} (most_table_cells - length cells) 0)

-- the numbers of a record, part after part
abbrev pub parts_of : ℕ → List ℕ → List ℕ → List ℕ
parts_of figure cells kept = length cells ∷ figure ∷ (in_room cells ++ kept)

-- a record that holds a table has these parts
module _ {rec : List ℕ} {figure : ℕ} {T : Table} (x : Holds rec figure T) where
  pub few-cells : length (cells_in T) ≤ most_table_cells
  few-cells = table-short (cells_in T) x.accepted

  front-parts : take 2052 rec ≡ length (cells_in T) ∷ figure ∷ in_room (cells_in T)
  front-parts =
      slice-cons 0 2052 rec 0 (omega arith) (omega (arith, x.size))
      ∙ ap₂ ◌∷◌ x.cells-many (slice-cons 1 2052 rec 0 (omega arith) (omega (arith, x.size)) ∙ ap₂ ◌∷◌ x.figure-is x.cells)

  pub holds_parts : rec ≡ parts_of figure (cells_in T) (drop 2052 rec)
  holds_parts = sym (take-append-drop 2052 rec) ∙ ap (λ (front : List ℕ). front ++ drop 2052 rec) front-parts

  pub kept-long : length (drop 2052 rec) ≡ kept_cells
  kept-long = length-drop 2052 rec ∙ omega (arith, x.size)

-- the parts are a record's
module _ {figure : ℕ} {T : Table} {kept : List ℕ} (accepted : table_of (cells_in T) ≡ read T) (low : figure ≤ 15)
    (k : Kept (work figure) T.width T.rows kept) (size : length kept ≡ kept_cells) where
  room-long : length (in_room (cells_in T)) ≡ most_table_cells
  room-long = length-room (cells_in T) (table-short (cells_in T) accepted)

  pub parts-hold : {rec : List ℕ} → rec ≡ parts_of figure (cells_in T) kept → Holds rec figure T
  parts-hold e = rw e (record {
    accepted = accepted;
    low = low;
    size = omega (arith, length-append (in_room (cells_in T)) kept, room-long);
    cells-many = refl;
    figure-is = refl;
    cells = take_at (in_room (cells_in T)) kept most_table_cells room-long;
    kept = rw (drop_at (in_room (cells_in T)) kept most_table_cells room-long) k;
  })

-- the table's part of a record is the table's cells
pub table-in : {rec : List ℕ} {figure : ℕ} {T : Table} → Holds rec figure T → table_in rec ≡ cells_in T
table-in {rec} {figure} {T} x =
    let n : get_or rec 0 0 ≤ most_table_cells = omega (arith, x.cells-many, few-cells x) in
    rw (le-ltb most_table_cells (get_or rec 0 0) n, x.cells-many)
    (slice-take 2 (length (cells_in T)) rec
    ∙ ap (λ (r : List ℕ). take (length (cells_in T)) (drop 2 r)) (holds_parts x)
    ∙ ap (take (length (cells_in T))) (append_assoc (cells_in T) (replicate (most_table_cells - length (cells_in T)) 0) (drop 2052 rec))
    ∙ take_at (cells_in T) (replicate (most_table_cells - length (cells_in T)) 0 ++ drop 2052 rec) (length (cells_in T)) refl)

-- A RECORD IS DETERMINED by its figure and its table
pub record-one : {rec rec' : List ℕ} {figure : ℕ} {T : Table} → Holds rec figure T → Holds rec' figure T → rec ≡ rec'
record-one {rec} {rec'} {figure} {T} x y =
    holds_parts x ∙ ap (parts_of figure (cells_in T)) (kept-one x.kept y.kept (kept-long x) (kept-long y)) ∙ sym (holds_parts y)

-- 02, W-207: "Keep the table together with its least cost and chosen place for every run of rows, as one record".
use Rattle.std.specs.Prelude.{ℕ, ◌+◌, ◌-◌, ◌≤◌, ◌<◌, ◌≡◌, cond, ◌⊎◌, ltb, length, get_or, drop, replicate}
use mathlib.Core.List.{List, [], ◌∷◌, ◌++◌, flatten}
use Rattle.std.proofs.Math.Seq.{slice}
use Rattle.refusal.specs.Read.{read}
use Rattle.table.specs.Table.{Table, table_of}
use Rattle.plan.specs.Plans.{Measure}
use Rattle.least.specs.Least.{Least}
use Rattle.least.specs.Entries.{between, Entry, whole_in, cost_in, place_in}
use Rattle.least.specs.Measures.{work}
use Rattle.limits.specs.Limits.{most_rows, most_table_cells, record_cells}

-- a table's cells (01, "A table is: width, row count, then the rows")
abbrev pub cells_in : Table → List ℕ
cells_in T = T.width ∷ length T.rows ∷ flatten T.rows

-- what the rows from the first to the last cost at least with nothing closed; 0 where there are no such rows
pub data Costs (measure : Measure) (width : ℕ) (rows : List (List ℕ)) (first last : ℕ) : ℕ → Type 0 where
  no_rows : (last < first) ⊎ (length rows ≤ last) → Costs measure width rows first last 0
  some-rows : {cost : ℕ} → first ≤ last → last < length rows → Least measure [] width (between first last rows) cost
      → Costs measure width rows first last cost

-- "its least cost and chosen place for every run of rows": for every pair of numbers below 64, and beside the entry what the rows cost
-- with nothing closed, without which an edit would have to close every kept pair again
pub record Kept (measure : Measure) (width : ℕ) (rows : List (List ℕ)) (kept : List ℕ) : Type 0 where
  pub costs : (first last : ℕ) → first < most_rows → last < most_rows → Costs measure width rows first last (whole_in kept first last)
  pub entry : (first last : ℕ) → first < most_rows → last < most_rows
      → Entry measure [] width rows first last (cost_in kept first last) (place_in kept first last)

-- A record of 14,340 numbers holds an accepted table with its figure: at 0 how many cells the table has, at 1 the figure, from 2 on the
-- table's cells, "and room in the record beyond the table's cells holds 0", from 2,052 on what is kept for every pair of rows
pub record Holds (rec : List ℕ) (figure : ℕ) (T : Table) : Type 0 where
  pub accepted : table_of (cells_in T) ≡ read T
  pub low : figure ≤ 15
  pub size : length rec ≡ record_cells
  pub cells-many : get_or rec 0 0 ≡ length (cells_in T)
  pub figure-is : get_or rec 1 0 ≡ figure
  pub cells : slice 2 2052 rec ≡ cells_in T ++ replicate (most_table_cells - length (cells_in T)) 0
  pub kept : Kept (work figure) T.width T.rows (drop 2052 rec)

-- the table's part of any record: empty where there can be none
abbrev pub table_in : List ℕ → List ℕ
table_in rec = cond (ltb most_table_cells (get_or rec 0 0)) [] (slice 2 (2 + get_or rec 0 0) rec)

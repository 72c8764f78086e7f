-- Tables and goals (01, "Tables and goals"): how they are read, in 01's order of tests ("1, 2, 3 come first; then cells are read left to
-- right, and at each place 4, 5, 6, 7, 8 in that order; 9 last"; 8 is given no more by 02, W-209), and what they are.
use Rattle.std.specs.Prelude.{ℕ, zero, suc, ◌+◌, ◌-◌, ◌≤◌, ◌<◌, ◌≡◌, Bool, true, false, cond, ◌&&◌, ◌||◌, eqb, leb, ltb, length, get_or, take, drop, replicate, Result, Ok, Err}
use mathlib.Core.List.{List, [], ◌∷◌, ◌++◌, flatten, Memᴰ}
use Rattle.cell.specs.Cell.{Cell, Values, values_at, is_var}
use Rattle.cell.specs.Same.{among}
use Rattle.term.specs.Terms.{Terms}
use Rattle.table.specs.declared.TableSize.{TableSize}
use Rattle.table.specs.declared.TableRead.{TableRead}
use Rattle.table.specs.declared.GoalSize.{GoalSize}
use Rattle.table.specs.declared.Part.{Part}
use Rattle.refusal.specs.declared.Refusal.{Refusal}
use Rattle.table.specs.All.{All}
use Rattle.refusal.specs.Refusal.{Refused, refused, told, Answer, answered, turned}
use Rattle.refusal.specs.declared.Reason.{Reason}
use Rattle.refusal.specs.declared.Reason.TheVariants as reason
use Rattle.refusal.specs.declared.Input.TheVariants as input
use Rattle.refusal.specs.Read.{Read, read, refuse, when, and_then}
use Rattle.limits.specs.Limits.{most_columns, most_row_cells, most_rows, most_table_cells}

-- The terms of a row or of a goal. LONG is given in a row only. A refusal of a row concerns the table, and one of a goal the goal
abbrev pub bad_term : Bool → Reason → ℕ → Refused
bad_term row r p = refused r (cond row input.Table input.Goal) p

-- what has been read: the place after it, and how many variables it has
pub record Met : Type 0 where
  pub next : ℕ
  pub vars : ℕ

abbrev pub met : ℕ → ℕ → Met
met p v = record { next = p; vars = v }

-- the variables met once a cell is read: 01, "numbered 0, 1, 2 in order of first appearance"
abbrev pub counted : Values → ℕ → ℕ
counted cell vars = cond (eqb cell.kind 0 && eqb cell.number vars) (suc vars) vars

-- one cell: CELL, FRESH. A variable that was met before is none of them, in a row either: 02, W-209, "need a variable used twice, and rows
-- may now have that"
abbrev pub cell_tests : {A : Type 0} → Bool → Values → ℕ → ℕ → Read A → Read A
cell_tests row cell vars place rest =
    when (eqb cell.kind 3) (bad_term row reason.Cell place)
    (when (eqb cell.kind 0 && ltb vars cell.number) (bad_term row reason.Fresh place)
    rest)

-- 01, "cells are read left to right, and at each place 4, 5, 6, 7, 8 in that order": of the cells left, the terms owed, the cells used so
-- far, the variables met and the next cell's place
unfoldable pub terms_from : Bool → List ℕ → ℕ → ℕ → ℕ → ℕ → Read Met
terms_from row [] zero used vars p = read (met p vars)
terms_from row [] (suc owed) used vars p = when (row && leb most_row_cells used) (bad_term row reason.Long p) (refuse (bad_term row reason.Short p))
terms_from row (c ∷ xs) zero used vars p = read (met p vars)
terms_from row (cell ∷ cells) (suc owed) used vars place =
    when (row && leb most_row_cells used) (bad_term row reason.Long place)
    (cell_tests row (values_at cell) vars place
    (terms_from row cells ((values_at cell).args + owed) (suc used) (counted (values_at cell) vars) (suc place)))

-- a table that is read
pub record Table : Type 0 where
  pub width : ℕ
  pub rows : List (List ℕ)

abbrev pub table : ℕ → List (List ℕ) → Table
table w rows = record { width = w; rows = rows }

-- one more row before those that are read
abbrev pub row_before : List ℕ → Read (List (List ℕ)) → Read (List (List ℕ))
row_before r (read rs) = read (r ∷ rs)
row_before r (refuse f) = refuse f

-- 02, W-208, "a pasted row without variables that equals an earlier one": what was read of the row, its cells, and the others
abbrev pub doubled : Met → List ℕ → List (List ℕ) → Bool
doubled m row others = eqb m.vars 0 && among row others

-- so many rows of a width, the first at place p, after those that were seen, and nothing after them. SAME, "at the later row's first cell,
-- when that row is complete, before anything of the next row and before EXTRA" (02, W-208); EXTRA
unfoldable pub rows_from : ℕ → ℕ → List (List ℕ) → List ℕ → ℕ → Read (List (List ℕ))
rows_from w zero seen [] p = read []
rows_from w zero seen (c ∷ xs) p = refuse (refused reason.Extra input.Table p)
rows_from width (suc more) seen cells place =
    and_then (terms_from true cells width 0 0 place) (λ (m : Met).
    let row = take (m.next - place) cells in
    when (doubled m row seen) (refused reason.Same input.Table place)
    (row_before row (rows_from width more (row ∷ seen) (drop (m.next - place) cells) m.next)))

-- 01, "A table is: width (1 to 8), row count (1 to 64), then the rows": LENGTH, WIDTH, COUNT, then the rows
unfoldable pub table_of : List ℕ → Read Table
table_of cells =
    when (ltb (length cells) 2 || ltb most_table_cells (length cells)) (refused reason.Length input.Table 0)
    (when (ltb (get_or cells 0 0) 1 || ltb most_columns (get_or cells 0 0)) (refused reason.Width input.Table 0)
    (when (ltb (get_or cells 1 0) 1 || ltb most_rows (get_or cells 1 0)) (refused reason.Count input.Table 1)
    (and_then (rows_from (get_or cells 0 0) (get_or cells 1 0) [] (drop 2 cells) 2) (λ (rows : List (List ℕ)).
    read (table (get_or cells 0 0) rows)))))

-- 01, "A goal is read with its table: width terms, 1 to 32 cells in all": LENGTH, the terms, EXTRA
unfoldable pub goal_of : ℕ → List ℕ → Read ℕ
goal_of width goal =
    when (ltb (length goal) 1 || ltb most_row_cells (length goal)) (refused reason.Length input.Goal 0)
    (and_then (terms_from false goal width 0 0 0) (λ (m : Met).
    when (ltb m.next (length goal)) (refused reason.Extra input.Goal m.next) (read m.vars)))

-- 02, W-207, "then 01's from LONG on for the new row, places from its start", and W-208, "against every other row, at 0": a row beside
-- others, and how many variables it has
unfoldable pub row_of : ℕ → List (List ℕ) → List ℕ → Read ℕ
row_of width others row =
    and_then (terms_from true row width 0 0 0) (λ (m : Met).
    when (doubled m (take m.next row) others) (refused reason.Same input.Table 0)
    (when (ltb m.next (length row)) (refused reason.Extra input.Table m.next) (read m.vars)))

-- What the entries answer.

-- where each row starts, the first at p
unfoldable pub starts : ℕ → List (List ℕ) → List ℕ
starts p [] = []
starts p (r ∷ rs) = p ∷ starts (p + length r) rs

-- so many of the 64 that the code hands out; the rest is 0, and all of them where the table is turned away
abbrev pub starts_in : Read Table → List ℕ
starts_in (read T) = starts 2 T.rows ++ replicate (most_rows - length T.rows) 0
starts_in (refuse f) = replicate most_rows 0

-- what is answered for a table: its width and number of rows
abbrev pub table_says : Read Table → Answer
table_says (read T) = answered T.width (length T.rows)
table_says (refuse f) = turned f

abbrev pub table_told : Result TableSize Refusal → Answer
table_told (Ok t) = answered t.width t.rows
table_told (Err f) = turned (told f)

-- the same of a table that comes with where its rows start; none start in one that is turned away
abbrev pub read_told : Result TableRead Refusal → Answer
read_told (Ok t) = answered t.width t.rows
read_told (Err f) = turned (told f)

abbrev pub starts_told : Result TableRead Refusal → List ℕ
starts_told (Ok t) = t.starts
starts_told (Err f) = replicate most_rows 0

-- what is answered for a table, in both parts of the code's answer
pub record TableReads (reading : Read Table) (result : Result TableRead Refusal) : Type 0 where
  pub answer : read_told result ≡ table_says reading
  pub starts : starts_told result ≡ starts_in reading

-- 01, "A goal is read with its table": the table's refusal first, then the goal's
abbrev pub goal_with : List ℕ → List ℕ → Read ℕ
goal_with t g = and_then (table_of t) (λ (T : Table). goal_of T.width g)

-- what is answered for a goal: its number of cells and of variables
abbrev pub goal_says : List ℕ → Read ℕ → Answer
goal_says g (read n) = answered (length g) n
goal_says g (refuse f) = turned f

abbrev pub goal_told : Result GoalSize Refusal → Answer
goal_told (Ok g) = answered g.cells g.vars
goal_told (Err f) = turned (told f)

-- the rows but the r-th; all of them where there is no such row
unfoldable pub others : ℕ → List (List ℕ) → List (List ℕ)
others r [] = []
others zero (x ∷ rows) = rows
others (suc r) (x ∷ rows) = x ∷ others r rows

-- what is answered for a row
abbrev pub row_told : Result ℕ Refusal → Read ℕ
row_told (Ok v) = read v
row_told (Err f) = refuse (told f)

-- 01, "The row handed out by number is that part of the lent table and no copy; where the table is refused or has no such row, that part is
-- empty"
abbrev pub row_in : Read Table → ℕ → List ℕ
row_in (read T) r = get_or T.rows r []
row_in (refuse f) r = []

-- where in the lent table that part is; both ends are 0 where there is no such row
pub record RowPlace (reading : Read Table) (row : ℕ) (part : Part) : Type 0 where
  pub start : part.start ≡ get_or (starts_in reading) row 0
  pub end : part.end ≡ part.start + length (row_in reading row)

-- What a table and a goal are, by 01's words.

-- how often a cell stands in a list
unfoldable pub count : ℕ → List ℕ → ℕ
count v [] = 0
count v (c ∷ xs) = cond (eqb v c) 1 0 + count v xs

-- the variables of a list by first appearance, those listed before left out
unfoldable pub appear : List ℕ → List ℕ → List ℕ
appear met [] = []
appear met (c ∷ xs) = cond (is_var c && eqb (count c met) 0) (c ∷ appear (c ∷ met) xs) (appear met xs)

-- n, n + 1, and so on, a of them
unfoldable pub up_from : ℕ → ℕ → List ℕ
up_from n zero = []
up_from n (suc a) = n ∷ up_from (suc n) a

-- what a row and a goal have in common: width terms, good cells, "variables are numbered 0, 1, 2 in order of first appearance"
pub record Head (width : ℕ) (head : List ℕ) : Type 0 where
  pub terms : Terms width head
  pub short : length head ≤ most_row_cells
  pub cells : (c : ℕ) → Memᴰ c head → Cell c
  pub order : appear [] head ≡ up_from 0 (length (appear [] head))

-- a row is no more than that, since it may use a variable as often as it likes (02, W-209)
abbrev pub Row : ℕ → List ℕ → Type 0
Row = Head

-- a row without variables
abbrev pub Ground : List ℕ → Type 0
Ground row = All (λ (c : ℕ). is_var c ≡ false) row

-- 02, W-208, "A pasted row without variables that equals an earlier one .. Refuse it anywhere in the table": a row is not such a one, the
-- others being these
abbrev pub Apart : List (List ℕ) → List ℕ → Type 0
Apart others row = Ground row → Memᴰ row others → ⊥

-- and no row of a table is
abbrev pub Distinct : List (List ℕ) → Type 0
Distinct [] = Unit {0}
Distinct (r ∷ rs) = All (λ (s : List ℕ). Ground s → r ≡ s → ⊥) rs × Distinct rs

-- 01, "A table is: width (1 to 8), row count (1 to 64), then the rows"
pub record IsTable (table : List ℕ) (columns : ℕ) (rows : List (List ℕ)) : Type 0 where
  pub cells : table ≡ columns ∷ length rows ∷ flatten rows
  pub width : (1 ≤ columns) × (columns ≤ most_columns)
  pub count : (1 ≤ length rows) × (length rows ≤ most_rows)
  pub each : All (Row columns) rows
  pub apart : Distinct rows

-- 02, W-208, "SAME at the later row's first cell, when that row is complete, before anything of the next row and before EXTRA": where rows
-- of a table, none of them doubled, are followed by one more that has no variable and is one of them. What comes after it may be anything
pub record Repeats (table : List ℕ) (place : ℕ) : Type 0 where
  pub columns : ℕ
  pub all : ℕ
  pub rows : List (List ℕ)
  pub row : List ℕ
  pub rest : List ℕ
  pub cells : table ≡ columns ∷ (all ∷ (flatten rows ++ (row ++ rest)))
  pub size : length table ≤ most_table_cells
  pub width : (1 ≤ columns) × (columns ≤ most_columns)
  pub count : (length rows < all) × (all ≤ most_rows)
  pub each : All (Row columns) (row ∷ rows)
  pub apart : Distinct rows
  pub ground : Ground row
  pub again : Memᴰ row rows
  pub at : place ≡ 2 + length (flatten rows)

-- "W-207's edits obey it too, against every other row, at 0": a row that is complete, has no variable and is one of the others stands at
-- the front of these cells
pub record RowRepeats (columns : ℕ) (others : List (List ℕ)) (new : List ℕ) : Type 0 where
  pub row : List ℕ
  pub rest : List ℕ
  pub cells : new ≡ row ++ rest
  pub whole : Row columns row
  pub ground : Ground row
  pub again : Memᴰ row others

-- 01, "A goal .. width terms, 1 to 32 cells in all"
pub record IsGoal (width : ℕ) (goal : List ℕ) : Type 0 where
  pub head : Head width goal
  pub some : 1 ≤ length goal

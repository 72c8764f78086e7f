-- 01's examples of what is turned away ("On both sides": P9, P10 and the last two), and readings of its table of refusals, computed by the definitions.
use mathlib.Core.Path.{◌≡◌, refl}
use mathlib.Core.List.{List, [], ◌∷◌, ◌++◌, map}
use Prim.Native.Nat.{ℕ, ◌*◌, ◌^◌}
use lib.ListN.{replicate}
use Rattle.cell.specs.Cell.{name_cell, number_cell, variable_cell, values_at}
use Rattle.cell.specs.Same.{same, among}
use Rattle.refusal.specs.Refusal.{refused, Answer, answered, turned}
use Rattle.refusal.specs.declared.Reason.{Reason}
use Rattle.refusal.specs.declared.Reason.TheVariants as reason
use Rattle.refusal.specs.declared.Input.{Input}
use Rattle.refusal.specs.declared.Input.TheVariants as input
use Rattle.refusal.specs.Read.{and_then}
use Rattle.table.specs.Table.{Table, terms_from, rows_from, table_of, goal_of, goal_with, row_of, others}
use Rattle.table.specs.Table.{table_says, goal_says, starts, starts_in, row_in}

abbrev a : ℕ
a = name_cell 0 1

abbrev b : ℕ
b = name_cell 0 2

abbrev f1 : ℕ
f1 = name_cell 1 3

abbrev v0 : ℕ
v0 = variable_cell 0

abbrev v1 : ℕ
v1 = variable_cell 1

-- kind 3
abbrev bad : ℕ
bad = 3 * 2 ^ 30

-- the rows (f1(a), v0) and (b, 9)
abbrev two-rows : List ℕ
two-rows = 2 ∷ 2 ∷ f1 ∷ a ∷ v0 ∷ b ∷ number_cell 9 ∷ []

-- the rows (a, a, b) and (b, b, b)
abbrev three-wide : List ℕ
three-wide = 3 ∷ 2 ∷ a ∷ a ∷ b ∷ b ∷ b ∷ b ∷ []

-- an answer, or the cells of a part
pub data Said : Type 0 where
  says : Answer → Said
  cells : List ℕ → Said

pub record Case : Type 0 where
  pub got : Said
  pub wanted : Said

abbrev no : Reason → Input → (place : ℕ) → Answer
no r i p = turned (refused r i p)

abbrev of-table : List ℕ → Answer → Case
of-table t w = record { got = says (table_says (table_of t)); wanted = says w }

abbrev of-goal : ℕ → List ℕ → Answer → Case
of-goal n g w = record { got = says (goal_says g (goal_of n g)); wanted = says w }

abbrev of-both : List ℕ → List ℕ → Answer → Case
of-both t g w = record { got = says (goal_says g (goal_with t g)); wanted = says w }

abbrev of_one : List ℕ → ℕ → List ℕ → Answer → Case
of_one t r row w =
    record { got = says (goal_says row (and_then (table_of t) (λ (T : Table). row_of T.width (others r T.rows) row))); wanted = says w }

abbrev of_row : List ℕ → ℕ → List ℕ → Case
of_row t r w = record { got = cells (row_in (table_of t) r); wanted = cells w }

pub cases : List Case
cases =
    -- P9: a row that uses its variable twice, accepted since W-209; FRESH at 2
    of-table (2 ∷ 1 ∷ 0 ∷ 0 ∷ []) (answered 2 1)
    ∷ of-table (1 ∷ 1 ∷ 1 ∷ []) (no reason.Fresh input.Table 2)
    -- P10: width 2, one row, the cells end after a: SHORT at 3
    ∷ of-table (2 ∷ 1 ∷ a ∷ []) (no reason.Short input.Table 3)
    -- width 1, 31 times f1 then a: accepted; 32 times: LONG at 34
    ∷ of-table (1 ∷ 1 ∷ replicate 31 f1 ++ a ∷ []) (answered 1 1)
    ∷ of-table (1 ∷ 1 ∷ replicate 32 f1 ++ a ∷ []) (no reason.Long input.Table 34)
    -- a name cell with 5 arguments: CELL
    ∷ of-table (1 ∷ 1 ∷ name_cell 5 1 ∷ []) (no reason.Cell input.Table 2)
    -- the cells end after a row's 32nd, and it is not complete: LONG at the number of cells; after its 31st: SHORT
    ∷ of-table (1 ∷ 1 ∷ replicate 32 f1) (no reason.Long input.Table 34)
    ∷ of-table (1 ∷ 1 ∷ replicate 31 f1) (no reason.Short input.Table 33)
    -- LENGTH comes before WIDTH, WIDTH before COUNT, COUNT before the rows
    ∷ of-table [] (no reason.Length input.Table 0)
    ∷ of-table (1 ∷ []) (no reason.Length input.Table 0)
    ∷ of-table (replicate 2051 0) (no reason.Length input.Table 0)
    ∷ of-table (0 ∷ 0 ∷ []) (no reason.Width input.Table 0)
    ∷ of-table (9 ∷ 1 ∷ []) (no reason.Width input.Table 0)
    ∷ of-table (8 ∷ 65 ∷ bad ∷ []) (no reason.Count input.Table 1)
    ∷ of-table (1 ∷ 1 ∷ []) (no reason.Short input.Table 2)
    -- a full table of 2,050 cells; a bad cell before its end, in a row and after the last
    ∷ of-table (1 ∷ 64 ∷ replicate 2048 v0) (no reason.Extra input.Table 66)
    ∷ of-table (1 ∷ 2 ∷ a ∷ bad ∷ []) (no reason.Cell input.Table 3)
    ∷ of-table (1 ∷ 1 ∷ a ∷ bad ∷ []) (no reason.Extra input.Table 3)
    -- the first refusal is that of the first bad cell; the count of variables starts anew in each row
    ∷ of-table (2 ∷ 1 ∷ f1 ∷ v1 ∷ bad ∷ []) (no reason.Fresh input.Table 3)
    ∷ of-table (1 ∷ 2 ∷ v0 ∷ v0 ∷ []) (answered 1 2)
    ∷ of-table two-rows (answered 2 2)
    -- goals: LENGTH, SHORT where a row would be LONG, FRESH, CELL, EXTRA; a variable may be repeated
    ∷ of-goal 1 [] (no reason.Length input.Goal 0)
    ∷ of-goal 1 (replicate 33 bad) (no reason.Length input.Goal 0)
    ∷ of-goal 1 (replicate 32 f1) (no reason.Short input.Goal 32)
    ∷ of-goal 2 (v0 ∷ a ∷ b ∷ []) (no reason.Extra input.Goal 2)
    ∷ of-goal 2 (v1 ∷ v0 ∷ []) (no reason.Fresh input.Goal 0)
    ∷ of-goal 1 (f1 ∷ bad ∷ []) (no reason.Cell input.Goal 1)
    ∷ of-goal 2 (v0 ∷ v0 ∷ []) (answered 2 1)
    ∷ of-goal 3 (v0 ∷ f1 ∷ v1 ∷ v0 ∷ []) (answered 4 2)
    -- with its table: the table's refusal first
    ∷ of-both (0 ∷ 1 ∷ a ∷ []) [] (no reason.Width input.Table 0)
    ∷ of-both two-rows (a ∷ []) (no reason.Short input.Goal 1)
    ∷ of-both two-rows (v0 ∷ v0 ∷ []) (answered 2 1)
    -- W-208: a row without variables that equals an earlier one, neighbour or not, when it is complete, before anything after it
    ∷ of-table (1 ∷ 2 ∷ a ∷ a ∷ []) (no reason.Same input.Table 3)
    ∷ of-table (1 ∷ 3 ∷ a ∷ b ∷ a ∷ []) (no reason.Same input.Table 4)
    ∷ of-table (1 ∷ 3 ∷ a ∷ a ∷ bad ∷ []) (no reason.Same input.Table 3)
    ∷ of-table (1 ∷ 3 ∷ a ∷ a ∷ []) (no reason.Same input.Table 3)
    ∷ of-table (1 ∷ 2 ∷ a ∷ a ∷ a ∷ []) (no reason.Same input.Table 3)
    ∷ of-table (2 ∷ 2 ∷ a ∷ b ∷ a ∷ bad ∷ []) (no reason.Cell input.Table 5)
    ∷ of-table (1 ∷ 2 ∷ a ∷ b ∷ a ∷ []) (no reason.Extra input.Table 4)
    -- W-207, a row for a table: LONG is a row's, EXTRA comes last, places are counted from its start
    ∷ of_one three-wide 1 [] (no reason.Short input.Table 0)
    ∷ of_one three-wide 1 (a ∷ b ∷ []) (no reason.Short input.Table 2)
    ∷ of_one three-wide 1 (a ∷ b ∷ a ∷ bad ∷ []) (no reason.Extra input.Table 3)
    ∷ of_one three-wide 1 (a ∷ v0 ∷ v0 ∷ []) (answered 3 1)
    ∷ of_one three-wide 1 (a ∷ v1 ∷ b ∷ []) (no reason.Fresh input.Table 1)
    ∷ of_one three-wide 1 (a ∷ bad ∷ b ∷ []) (no reason.Cell input.Table 1)
    ∷ of_one three-wide 1 (replicate 33 f1) (no reason.Long input.Table 32)
    ∷ of_one three-wide 1 (a ∷ f1 ∷ v0 ∷ v1 ∷ []) (answered 4 2)
    -- W-208, against every other row: not against the one whose place it takes, before EXTRA, at 0
    ∷ of_one three-wide 2 (a ∷ a ∷ b ∷ []) (no reason.Same input.Table 0)
    ∷ of_one three-wide 0 (a ∷ a ∷ b ∷ []) (answered 3 0)
    ∷ of_one three-wide 0 (b ∷ b ∷ b ∷ []) (no reason.Same input.Table 0)
    ∷ of_one three-wide 2 (a ∷ a ∷ b ∷ b ∷ []) (no reason.Same input.Table 0)
    ∷ of_one (0 ∷ 1 ∷ a ∷ []) 0 [] (no reason.Width input.Table 0)
    -- rows by their numbers; none where the table is refused or has no such row
    ∷ of_row two-rows 0 (f1 ∷ a ∷ v0 ∷ [])
    ∷ of_row two-rows 1 (b ∷ number_cell 9 ∷ [])
    ∷ of_row two-rows 2 []
    ∷ of_row two-rows (2 ^ 64) []
    ∷ of_row (two-rows ++ a ∷ []) 0 []
    -- where the rows start
    ∷ record { got = cells (starts_in (table_of two-rows)); wanted = cells (2 ∷ 5 ∷ replicate 62 0) }
    ∷ []

pub computed : map (λ (k : Case). k.got) cases ≡ map (λ (k : Case). k.wanted) cases
unfolding cases table_of rows_from among same terms_from goal_of row_of others starts values_at
computed = refl

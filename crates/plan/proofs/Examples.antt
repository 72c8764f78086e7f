-- Worked examples of the check (01, "What is turned away"), computed by the definitions: one table of cases under one theorem. The plans that 01's marked
-- examples print are in crate marked.
use Prim.Native.Nat.{ℕ}
use mathlib.Core.Path.{◌≡◌, refl}
use mathlib.Core.List.{List, [], ◌∷◌, map, flatten}
use lib.ListN.{length, replicate}
use Rattle.cell.specs.Cell.{name_cell, variable_cell, values_at, arity, is_var}
use Rattle.cell.specs.Same.{same, among}
use Rattle.term.specs.Terms.{root, close}
use Rattle.refusal.specs.Refusal.{refused}
use Rattle.refusal.specs.declared.Reason.{Reason}
use Rattle.refusal.specs.declared.Reason.TheVariants as reason
use Rattle.refusal.specs.declared.Input.TheVariants as input
use Rattle.refusal.specs.Read.{Read, read, refuse}
use Rattle.table.specs.Table.{terms_from, rows_from, table_of}
use Rattle.plan.specs.Runs.{agree}
use Rattle.plan.specs.Check.{state_from, plan_with, plan_of}
use Rattle.limits.specs.Limits.{most_plan_cells}

abbrev a : ℕ
a = name_cell 0 1

abbrev b : ℕ
b = name_cell 0 2

abbrev c : ℕ
c = name_cell 0 3

abbrev d : ℕ
d = name_cell 0 4

abbrev g : ℕ
g = name_cell 0 7

abbrev f1 : ℕ
f1 = name_cell 1 6

abbrev v0 : ℕ
v0 = variable_cell 0

abbrev v1 : ℕ
v1 = variable_cell 1

-- 01's tables, as cells
table : ℕ → List (List ℕ) → List ℕ
table w rows = w ∷ length rows ∷ flatten rows

p2 : List ℕ
p2 = table 2 ((a ∷ b ∷ []) ∷ (b ∷ c ∷ []) ∷ (a ∷ d ∷ []) ∷ [])

p4 : List ℕ
p4 = table 1 ((v0 ∷ []) ∷ [])

one : List ℕ
one = table 1 ((a ∷ []) ∷ [])

p6 : List ℕ
p6 = table 1 ((v0 ∷ []) ∷ (v0 ∷ []) ∷ [])

p7 : List ℕ
p7 = table 2 ((a ∷ b ∷ []) ∷ (a ∷ a ∷ []) ∷ [])

p8 : List ℕ
p8 = table 1 ((f1 ∷ a ∷ []) ∷ (f1 ∷ b ∷ []) ∷ (g ∷ []) ∷ [])

pub record Case : Type 0 where
  pub cells : List ℕ
  pub plan : List ℕ
  pub says : Read ℕ

abbrev case : List ℕ → List ℕ → Read ℕ → Case
case t p r = record { cells = t; plan = p; says = r }

-- a plan refused for this reason at this place
abbrev no : Reason → ℕ → Read ℕ
no r p = refuse (refused r input.Plan p)

pub cases : List Case
cases =
    -- two plans of one table, P7's: by its first place, and by its second
    case p7 (0 ∷ 1 ∷ a ∷ 0 ∷ 2 ∷ b ∷ 1 ∷ a ∷ 1 ∷ []) (read 3)
    ∷ case p7 (1 ∷ 2 ∷ b ∷ 0 ∷ 1 ∷ a ∷ 1 ∷ a ∷ 0 ∷ 1 ∷ a ∷ 1 ∷ []) (read 4)
    -- EDGES: P2 with a shared between rows 0 and 2; P6 with variables that agree
    ∷ case p2 (0 ∷ 2 ∷ a ∷ 0 ∷ 2 ∷ b ∷ 1 ∷ d ∷ 1 ∷ b ∷ 0 ∷ 1 ∷ c ∷ 1 ∷ []) (no reason.Edges 1)
    ∷ case p6 (0 ∷ 1 ∷ v0 ∷ 2 ∷ []) (no reason.Edges 1)
    -- OPEN: an index equal to the number of open places, at the first state and below a branch
    ∷ case p4 (1 ∷ 1 ∷ v0 ∷ 1 ∷ []) (no reason.Open 0)
    ∷ case p8 (0 ∷ 2 ∷ f1 ∷ 1 ∷ 2 ∷ a ∷ 1 ∷ b ∷ 1 ∷ g ∷ 1 ∷ []) (no reason.Open 3)
    -- LABEL: another symbol, also where the leaf below is wrong too; another variable than the row's own
    ∷ case one (0 ∷ 1 ∷ b ∷ 1 ∷ []) (no reason.Label 2)
    ∷ case p6 (0 ∷ 2 ∷ v0 ∷ 1 ∷ v1 ∷ 1 ∷ []) (no reason.Label 4)
    -- ROWS: one row too few, one too many
    ∷ case one (0 ∷ 1 ∷ a ∷ 0 ∷ []) (no reason.Rows 3)
    ∷ case one (0 ∷ 1 ∷ a ∷ 2 ∷ []) (no reason.Rows 3)
    -- ENDS: at each place
    ∷ case one [] (no reason.Ends 0)
    ∷ case one (0 ∷ []) (no reason.Ends 1)
    ∷ case one (0 ∷ 1 ∷ []) (no reason.Ends 2)
    ∷ case one (0 ∷ 1 ∷ a ∷ []) (no reason.Ends 3)
    -- EXTRA
    ∷ case one (0 ∷ 1 ∷ a ∷ 1 ∷ 1 ∷ []) (no reason.Extra 4)
    -- SIZE, before anything else of the plan, and from 6,083 cells on
    ∷ case one (replicate most_plan_cells 0) (no reason.Edges 1)
    ∷ case one (replicate 6083 0) (no reason.Size 0)
    -- the table comes first
    ∷ case (1 ∷ []) (1 ∷ []) (refuse (refused reason.Length input.Table 0))
    -- a table with a row twice is none, so no leaf has two rows
    ∷ case (table 1 ((a ∷ []) ∷ (a ∷ []) ∷ [])) (0 ∷ 1 ∷ a ∷ 2 ∷ []) (refuse (refused reason.Same input.Table 3))
    ∷ []

pub computed : map (λ (k : Case). plan_of k.cells k.plan) cases ≡ map (λ (k : Case). k.says) cases
unfolding cases table p2 p4 one p6 p7 p8 plan_with state_from agree root close table_of rows_from among same terms_from values_at arity is_var flatten
computed = refl

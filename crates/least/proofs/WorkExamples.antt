-- Examples of the measure of W-204, by computation: the cost and the cells of the builder's plan, for a figure. 01's first example changes its
-- plan with the figure: from 2 on, three branches at one state cost less than two at each of two. And rows that repeat a variable (02, W-209).
use Prim.Native.Nat.{ℕ, ◌+◌}
use native.Mathlib.Omega.{arith}
use mathlib.Core.Path.{◌≡◌, refl}
use mathlib.Core.List.{List, [], ◌∷◌, map}
use Rattle.cell.specs.Cell.{name_cell, number_cell, values_at, arity, is_var}
use Rattle.term.specs.Terms.{root, close}
use Rattle.table.specs.Table.{Table, table, count}
use Rattle.plan.specs.Runs.{agree}
use Rattle.plan.specs.Plans.{Plan, leaf, node, end, next, Measure, plain}
use Rattle.least.specs.code.Best.{argmin, total, best}
use Rattle.least.specs.Later.{later_in, laters_in}
use Rattle.least.specs.code.Pairs.{scan, closed, closed_of, later_of, agreed_of}
use Rattle.least.specs.Measures.{work_of, work, cost_from}
use Rattle.least.proofs.Builder.{place, run_cells, plan_cells}

abbrev a : ℕ
a = name_cell 0 1

abbrev b : ℕ
b = name_cell 0 2

abbrev c : ℕ
c = name_cell 0 3

abbrev d : ℕ
d = name_cell 0 4

abbrev f1 : ℕ
f1 = name_cell 1 5

abbrev g2 : ℕ
g2 = name_cell 2 6

pub record Case : Type 0 where
  pub figure : ℕ
  pub width : ℕ
  pub rows : List (List ℕ)

pub record Says : Type 0 where
  pub cost : ℕ
  pub plan : List ℕ

abbrev pub case : ℕ → ℕ → List (List ℕ) → Case
case f w rs = record { figure = f; width = w; rows = rs }

abbrev pub says : ℕ → List ℕ → Says
says n p = record { cost = n; plan = p }

abbrev p1 : List (List ℕ)
p1 = (a ∷ b ∷ c ∷ []) ∷ (a ∷ b ∷ d ∷ []) ∷ (a ∷ c ∷ c ∷ []) ∷ (b ∷ a ∷ c ∷ []) ∷ []

abbrev old-plan : List ℕ
old-plan = 0 ∷ 2 ∷ a ∷ 0 ∷ 2 ∷ b ∷ 0 ∷ 2 ∷ c ∷ 1 ∷ d ∷ 1 ∷ c ∷ 0 ∷ 1 ∷ c ∷ 1 ∷ b ∷ 0 ∷ 1 ∷ a ∷ 0 ∷ 1 ∷ c ∷ 1 ∷ []

abbrev new-plan : List ℕ
new-plan = 0 ∷ 2 ∷ a ∷ 1 ∷ 3 ∷ c ∷ 0 ∷ 1 ∷ b ∷ 1 ∷ d ∷ 0 ∷ 1 ∷ b ∷ 1 ∷ c ∷ 0 ∷ 1 ∷ c ∷ 1 ∷ b ∷ 0 ∷ 1 ∷ a ∷ 0 ∷ 1 ∷ c ∷ 1 ∷ []

unfoldable pub cases : List Case
cases =
    case 15 1 ((0 ∷ []) ∷ []) ∷ case 15 1 ((0 ∷ []) ∷ (0 ∷ []) ∷ []) ∷ case 3 2 ((f1 ∷ a ∷ number_cell 9 ∷ []) ∷ []) ∷ case 0 3 p1 ∷ case 1 3 p1
    ∷ case 2 3 p1 ∷ case 15 3 p1
    ∷ case 0 2 ((b ∷ a ∷ []) ∷ (0 ∷ b ∷ []) ∷ (0 ∷ b ∷ []) ∷ []) ∷ case 1 2 ((b ∷ a ∷ []) ∷ (0 ∷ b ∷ []) ∷ (0 ∷ b ∷ []) ∷ [])
    ∷ case 0 2 ((a ∷ a ∷ []) ∷ (a ∷ g2 ∷ b ∷ 0 ∷ []) ∷ (0 ∷ g2 ∷ a ∷ 1 ∷ []) ∷ []) ∷ []

unfoldable pub answers : List Says
answers =
    says 0 (0 ∷ 1 ∷ 0 ∷ 1 ∷ []) ∷ says 15 (0 ∷ 2 ∷ 0 ∷ 1 ∷ 0 ∷ 1 ∷ []) ∷ says 4 (0 ∷ 1 ∷ f1 ∷ 0 ∷ 1 ∷ a ∷ 0 ∷ 1 ∷ number_cell 9 ∷ 1 ∷ [])
    ∷ says 9 old-plan ∷ says 12 old-plan
    ∷ says 14 new-plan ∷ says 40 new-plan ∷ says 3 (1 ∷ 2 ∷ a ∷ 0 ∷ 1 ∷ b ∷ 1 ∷ b ∷ 0 ∷ 2 ∷ 0 ∷ 1 ∷ 0 ∷ 1 ∷ [])
    ∷ says 5 (0 ∷ 3 ∷ b ∷ 0 ∷ 1 ∷ a ∷ 1 ∷ 0 ∷ 0 ∷ 1 ∷ b ∷ 1 ∷ 0 ∷ 0 ∷ 1 ∷ b ∷ 1 ∷ [])
    ∷ says 8 (1 ∷ 2 ∷ a ∷ 0 ∷ 1 ∷ a ∷ 1 ∷ g2 ∷ 0 ∷ 2 ∷ a ∷ 0 ∷ 1 ∷ b ∷ 0 ∷ 1 ∷ 0 ∷ 1 ∷ 0 ∷ 0 ∷ 1 ∷ a ∷ 0 ∷ 1 ∷ 1 ∷ 1 ∷ []) ∷ []

pub computed : map (λ (x : Case). says (best (work x.figure) 8 [] x.width x.rows) (plan_cells (work x.figure) 8 [] x.width x.rows))
    cases ≡ answers
unfolding cases answers work_of plan_cells place run_cells best total argmin root close agree arity values_at is_var
computed = refl

-- ROWS THAT REPEAT A VARIABLE. What a table's plans cost at least (`least-later`), by 01's measure and by the work with figures 0 and 3
abbrev costs : Table → List ℕ
costs T = map (λ (m : Measure). best m 8 [] T.width T.rows + laters_in m [] T.rows) (plain ∷ work 0 ∷ work 3 ∷ [])

unfoldable pub repeats : List Table
repeats = table 2 ((0 ∷ 0 ∷ []) ∷ []) ∷ table 3 ((0 ∷ 0 ∷ 0 ∷ []) ∷ []) ∷ table 2 ((0 ∷ f1 ∷ 0 ∷ []) ∷ []) ∷ table 3 ((0 ∷ 1 ∷ g2 ∷ 0 ∷ 1 ∷ []) ∷ [])
    ∷ table 2 ((0 ∷ 0 ∷ []) ∷ (0 ∷ 0 ∷ []) ∷ []) ∷ table 2 ((0 ∷ 0 ∷ []) ∷ (0 ∷ 1 ∷ []) ∷ []) ∷ table 2 ((a ∷ 0 ∷ []) ∷ (0 ∷ 0 ∷ []) ∷ [])
    ∷ table 3 ((a ∷ 0 ∷ 0 ∷ []) ∷ (a ∷ b ∷ 0 ∷ []) ∷ []) ∷ table 2 ((f1 ∷ 0 ∷ 0 ∷ []) ∷ (f1 ∷ a ∷ a ∷ []) ∷ []) ∷ table 4 ((f1 ∷ 0 ∷ 0 ∷ f1 ∷ 1 ∷ 1 ∷ []) ∷ [])
    ∷ table 3 ((a ∷ 0 ∷ 0 ∷ []) ∷ (b ∷ 0 ∷ 0 ∷ []) ∷ []) ∷ []

pub repeats-cost : map costs repeats ≡ (2 ∷ 1 ∷ 1 ∷ []) ∷ (3 ∷ 2 ∷ 2 ∷ []) ∷ (3 ∷ 3 ∷ 3 ∷ []) ∷ (5 ∷ 5 ∷ 5 ∷ []) ∷ (4 ∷ 2 ∷ 5 ∷ []) ∷ (4 ∷ 1 ∷ 4 ∷ [])
    ∷ (4 ∷ 2 ∷ 5 ∷ [])
    ∷ (5 ∷ 3 ∷ 6 ∷ []) ∷ (5 ∷ 5 ∷ 8 ∷ []) ∷ (6 ∷ 6 ∷ 6 ∷ []) ∷ (6 ∷ 4 ∷ 7 ∷ []) ∷ []
unfolding repeats work_of later_in count best total argmin root close agree arity values_at is_var
repeats-cost = refl

-- the builder's plans of four of them, by the work with figure 3
pub repeats-plan : map (λ (T : Table). plan_cells (work 3) 8 [] T.width T.rows)
    (table 2 ((0 ∷ 0 ∷ []) ∷ []) ∷ table 2 ((0 ∷ f1 ∷ 0 ∷ []) ∷ []) ∷ table 2 ((0 ∷ 0 ∷ []) ∷ (0 ∷ 0 ∷ []) ∷ [])
    ∷ table 3 ((a ∷ 0 ∷ 0 ∷ []) ∷ (a ∷ b ∷ 0 ∷ []) ∷ []) ∷ [])
    ≡ (0 ∷ 1 ∷ 0 ∷ 0 ∷ 1 ∷ 0 ∷ 1 ∷ []) ∷ (0 ∷ 1 ∷ 0 ∷ 0 ∷ 1 ∷ f1 ∷ 0 ∷ 1 ∷ 0 ∷ 1 ∷ []) ∷ (0 ∷ 2 ∷ 0 ∷ 0 ∷ 1 ∷ 0 ∷ 1 ∷ 0 ∷ 0 ∷ 1 ∷ 0 ∷ 1 ∷ [])
    ∷ (0 ∷ 1 ∷ a ∷ 0 ∷ 2 ∷ 0 ∷ 0 ∷ 1 ∷ 0 ∷ 1 ∷ b ∷ 0 ∷ 1 ∷ 0 ∷ 1 ∷ []) ∷ []
unfolding work_of plan_cells place run_cells best total argmin root close agree arity values_at is_var
repeats-plan = refl

-- a plan of (v0,v1,g2(v0,v1)) that looks at the third place first meets each variable there, and costs what any other does
unfoldable pub tree : Plan 3 ((0 ∷ 1 ∷ g2 ∷ 0 ∷ 1 ∷ []) ∷ [])
unfolding root close agree arity values_at is_var
tree =
    node {k = 2} 2 (omega arith) (next (node {k = 3} 2 (omega arith) (next (node {k = 2} 2 (omega arith) (next (node {k = 1} 0 (omega arith)
    (next (node {k = 0} 0 (omega arith) (next leaf end)) end)) end)) end)) end)

pub tree-costs : map (λ (m : Measure). cost_from m [] tree) (plain ∷ work 0 ∷ work 3 ∷ []) ≡ 5 ∷ 5 ∷ 5 ∷ []
unfolding tree cost_from count work_of root close agree arity values_at is_var
tree-costs = refl

-- a row of 20 cells that repeats three variables five times each: all of it is agreed on
abbrev f4 : ℕ
f4 = name_cell 4 9

unfoldable pub long : List ℕ
long = 0 ∷ f4 ∷ 0 ∷ 0 ∷ 0 ∷ 0 ∷ 1 ∷ f4 ∷ 1 ∷ 1 ∷ 1 ∷ 1 ∷ 2 ∷ f4 ∷ 2 ∷ 2 ∷ 2 ∷ 2 ∷ 3 ∷ 4 ∷ []

pub long-costs : agreed_of (work 0) 32 [] 8 (long ∷ []) 0 0 ≡ 27
unfolding long closed_of closed later_of scan later_in count work_of root close agree arity values_at is_var
long-costs = refl

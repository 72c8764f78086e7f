-- 01's examples ("On both sides"): those marked P as one table, and what each says by the definitions that the promises are made of. Beside
-- them the runs that show 02's W-214.
use Rattle.std.specs.Prelude.{Result, ℕ, ◌≤◌, ◌≡◌, length, drop, replicate}
use Rattle.answer.specs.declared.RunCounts.{RunCounts}
use Rattle.refusal.specs.declared.Refusal.{Refusal}
use mathlib.Core.List.{List, [], ◌∷◌, ◌++◌, flatten}
use Rattle.cell.specs.Cell.{name_cell, number_cell, variable_cell}
use Rattle.term.specs.Unify.{Matches}
use Rattle.refusal.specs.declared.Reason.{Reason}
use Rattle.refusal.specs.declared.Reason.TheVariants as reason
use Rattle.refusal.specs.declared.Input.TheVariants as input
use Rattle.refusal.specs.Refusal.{refused, answered}
use Rattle.refusal.specs.Read.{read, refuse}
use Rattle.table.specs.Table.{Table, table_of, goal_of}
use Rattle.plan.specs.Plans.{Plan, write, branches, plain}
use Rattle.plan.specs.Check.{plan_of}
use Rattle.least.specs.Least.{Built}
use Rattle.answer.specs.Skeleton.{hole}
use Rattle.answer.specs.Run.{Picks, Counts, skeletons, Tried, run_told, Ran}

-- an example: a table that is turned away; every plan that starts so is; a table with the builder's plan and its cost; a run of that plan on
-- a goal; and a run of any plan with so many branches
pub data Example : Type 0 where
  turned : (cells : List ℕ) (why : Reason) (place : ℕ) → Example
  plan_turned : (cells start : List ℕ) (why : Reason) (place : ℕ) → Example
  built : (cells plan : List ℕ) (cost : ℕ) → Example
  ran : (cells plan : List ℕ) (cost : ℕ) (goal hits : List ℕ) (tried : ℕ) → Example
  ran_by : (cells plan : List ℕ) (cost : ℕ) (goal hits : List ℕ) (tried : ℕ) → Example

-- what it says, by the definitions that the promises are made of
pub record PlanSays (cells plan : List ℕ) (cost : ℕ) : Type 0 where
  pub table : Table
  pub reads : table_of cells ≡ read table
  pub tree : Plan table.width table.rows
  pub writes : write tree ≡ plan
  pub count : branches tree ≡ cost

pub record BuiltSays (cells plan : List ℕ) (cost : ℕ) : Type 0 where
  pub plans : PlanSays cells plan cost
  pub rule : Built plain [] plans.tree

-- the rows that unify, the branches tried, and so what every run answers and writes that the promise of `run_plan` allows
pub record RanSays (cells plan : List ℕ) (cost : ℕ) (goal hits : List ℕ) (tried : ℕ) : Type 0 where
  pub plans : PlanSays cells plan cost
  pub vars : ℕ
  pub reads : goal_of plans.table.width goal ≡ read vars
  pub found : Picks (λ (row : List ℕ). Matches row goal) plans.table.rows 0 hits
  pub tries : Counts (Tried goal) (skeletons plans.tree (replicate plans.table.width hole)) tried
  pub answers : (room after : List ℕ) (r : Result RunCounts Refusal) → length plans.table.rows ≤ length room → Ran cells plan goal room after r
      → (run_told r ≡ answered (length hits) tried) × (after ≡ hits ++ drop (length hits) room)

abbrev pub Says : Example → Type 0
Says (turned t r p) = table_of t ≡ refuse (refused r input.Table p)
Says (plan_turned t start r p) = (rest : List ℕ) → length (start ++ rest) ≤ 6082 → plan_of t (start ++ rest) ≡ refuse (refused r input.Plan p)
Says (built t p cost) = BuiltSays t p cost
Says (ran t p cost g hits tried) = BuiltSays t p cost × RanSays t p cost g hits tried
Says (ran_by t p cost g hits tried) = RanSays t p cost g hits tried

-- an example under its number
pub record P : Type 0 where
  pub number : ℕ
  pub example : Example

abbrev pub p : ℕ → Example → P
p n x = record { number = n; example = x }

-- 01, "On both sides": letters stand for names without arguments, f1 for a name with one.
abbrev pub a : ℕ
a = name_cell 0 1

abbrev pub b : ℕ
b = name_cell 0 2

abbrev pub c : ℕ
c = name_cell 0 3

abbrev pub d : ℕ
d = name_cell 0 4

abbrev pub g : ℕ
g = name_cell 0 7

abbrev pub f1 : ℕ
f1 = name_cell 1 6

abbrev pub i : ℕ → ℕ
i n = number_cell n

abbrev pub v : ℕ → ℕ
v n = variable_cell n

-- a table as cells
unfoldable pub table_cells : ℕ → List (List ℕ) → List ℕ
table_cells w rows = w ∷ length rows ∷ flatten rows

unfoldable pub p1 : List ℕ
p1 = table_cells 3 ((a ∷ b ∷ c ∷ []) ∷ (a ∷ b ∷ d ∷ []) ∷ (a ∷ c ∷ c ∷ []) ∷ (b ∷ a ∷ c ∷ []) ∷ [])

unfoldable pub p2 : List ℕ
p2 = table_cells 2 ((a ∷ b ∷ []) ∷ (b ∷ c ∷ []) ∷ (a ∷ d ∷ []) ∷ [])

unfoldable pub plan2 : List ℕ
plan2 = 0 ∷ 3 ∷ a ∷ 0 ∷ 1 ∷ b ∷ 1 ∷ b ∷ 0 ∷ 1 ∷ c ∷ 1 ∷ a ∷ 0 ∷ 1 ∷ d ∷ 1 ∷ []

unfoldable pub p3 : List ℕ
p3 =
    table_cells 3
    ((g ∷ a ∷ i 1 ∷ []) ∷ (g ∷ a ∷ i 2 ∷ []) ∷ (g ∷ a ∷ i 3 ∷ []) ∷ (g ∷ i 1 ∷ b ∷ []) ∷ (g ∷ i 2 ∷ b ∷ []) ∷ (g ∷ i 3 ∷ b ∷ []) ∷ [])

unfoldable pub plan3 : List ℕ
plan3 = 0 ∷ 1 ∷ g ∷ 0 ∷ 4 ∷ a ∷ 0 ∷ 3 ∷ i 1 ∷ 1 ∷ i 2 ∷ 1 ∷ i 3 ∷ 1 ∷ i 1 ∷ 0 ∷ 1 ∷ b ∷ 1 ∷ i 2 ∷ 0 ∷ 1 ∷ b ∷ 1 ∷ i 3 ∷ 0 ∷ 1 ∷ b ∷ 1 ∷ []

unfoldable pub p7 : List ℕ
p7 = table_cells 2 ((a ∷ b ∷ []) ∷ (a ∷ a ∷ []) ∷ [])

unfoldable pub p8 : List ℕ
p8 = table_cells 1 ((f1 ∷ a ∷ []) ∷ (f1 ∷ b ∷ []) ∷ (g ∷ []) ∷ [])

unfoldable pub plan8 : List ℕ
plan8 = 0 ∷ 2 ∷ f1 ∷ 0 ∷ 2 ∷ a ∷ 1 ∷ b ∷ 1 ∷ g ∷ 1 ∷ []

unfoldable pub plan9 : List ℕ
plan9 = 0 ∷ 1 ∷ v 0 ∷ 0 ∷ 1 ∷ v 0 ∷ 1 ∷ []

-- the examples marked P, each under its number
unfoldable pub marked : List P
marked =
    -- P1: cost 9, and the plan
    p 1 (built p1 (0 ∷ 2 ∷ a ∷ 0 ∷ 2 ∷ b ∷ 0 ∷ 2 ∷ c ∷ 1 ∷ d ∷ 1 ∷ c ∷ 0 ∷ 1 ∷ c ∷ 1 ∷ b ∷ 0 ∷ 1 ∷ a ∷ 0 ∷ 1 ∷ c ∷ 1 ∷ []) 9)
    -- P2: cost 6, first place 0. Goal (a,v0): rows 0 2, tried 5. Goal (v0,v1): rows 0 1 2, tried 6
    ∷ p 2 (ran p2 plan2 6 (a ∷ v 0 ∷ []) (0 ∷ 2 ∷ []) 5)
    ∷ p 2 (ran p2 plan2 6 (v 0 ∷ v 1 ∷ []) (0 ∷ 1 ∷ 2 ∷ []) 6)
    -- P3: the six g rows: cost 11. A plan starting `0 2` gives EDGES at 1
    ∷ p 3 (built p3 plan3 11)
    ∷ p 3 (plan_turned p3 (0 ∷ 2 ∷ []) reason.Edges 1)
    -- P4: one row (v0)
    ∷ p 4 (built (table_cells 1 ((v 0 ∷ []) ∷ [])) (0 ∷ 1 ∷ v 0 ∷ 1 ∷ []) 1)
    -- P5: (a) (a); 02, W-208, "P5's table is refused": SAME at 3
    ∷ p 5 (turned (table_cells 1 ((a ∷ []) ∷ (a ∷ []) ∷ [])) reason.Same 3)
    -- P6: (v0) (v0)
    ∷ p 6 (built (table_cells 1 ((v 0 ∷ []) ∷ (v 0 ∷ []) ∷ [])) (0 ∷ 2 ∷ v 0 ∷ 1 ∷ v 0 ∷ 1 ∷ []) 2)
    -- P7: (a,b) (a,a), goal (v0,v0): row 1, tried 3
    ∷ p 7 (ran p7 (0 ∷ 1 ∷ a ∷ 0 ∷ 2 ∷ b ∷ 1 ∷ a ∷ 1 ∷ []) 3 (v 0 ∷ v 0 ∷ []) (1 ∷ []) 3)
    -- P8: (f1(a)) (f1(b)) (g); goal (g): row 2, tried 2
    ∷ p 8 (ran p8 plan8 4 (g ∷ []) (2 ∷ []) 2)
    -- P9: cells 2 1 0 0; 02, W-209, "P9's first table is accepted": the row (v0,v0). Its second branch "unifies the two terms .. with the
    -- occurs check": goal (a,v0): row 0, tried 2. Goals (a,b) and (v0,f1(v0)): no row, tried 2. Cells 1 1 1: FRESH at 2
    ∷ p 9 (ran (2 ∷ 1 ∷ 0 ∷ 0 ∷ []) plan9 2 (a ∷ v 0 ∷ []) (0 ∷ []) 2)
    ∷ p 9 (ran (2 ∷ 1 ∷ 0 ∷ 0 ∷ []) plan9 2 (a ∷ b ∷ []) [] 2)
    ∷ p 9 (ran (2 ∷ 1 ∷ 0 ∷ 0 ∷ []) plan9 2 (v 0 ∷ f1 ∷ v 0 ∷ []) [] 2)
    ∷ p 9 (turned (1 ∷ 1 ∷ 1 ∷ []) reason.Fresh 2)
    -- P10: width 2, one row, cells end after a: SHORT at 3
    ∷ p 10 (turned (2 ∷ 1 ∷ a ∷ []) reason.Short 3)
    ∷ []

-- 02, W-214, "Knowing more never adds rules": goals of which each is an instance of the first, and some of one another.

-- (a,b) (v0,v0) (c,v0)
unfoldable pub three : List ℕ
three = table_cells 2 ((a ∷ b ∷ []) ∷ (v 0 ∷ v 0 ∷ []) ∷ (c ∷ v 0 ∷ []) ∷ [])

unfoldable pub plan_three : List ℕ
plan_three = 0 ∷ 3 ∷ a ∷ 0 ∷ 1 ∷ b ∷ 1 ∷ v 0 ∷ 0 ∷ 1 ∷ v 0 ∷ 1 ∷ c ∷ 0 ∷ 1 ∷ v 0 ∷ 1 ∷ []

-- (a,a)
unfoldable pub single : List ℕ
single = table_cells 2 ((a ∷ a ∷ []) ∷ [])

-- (a,c) (b,c) (a,d) (b,d), and its two plans
unfoldable pub four : List ℕ
four = table_cells 2 ((a ∷ c ∷ []) ∷ (b ∷ c ∷ []) ∷ (a ∷ d ∷ []) ∷ (b ∷ d ∷ []) ∷ [])

unfoldable pub plan_two : List ℕ
plan_two = 1 ∷ 2 ∷ c ∷ 0 ∷ 2 ∷ a ∷ 1 ∷ b ∷ 1 ∷ d ∷ 0 ∷ 2 ∷ a ∷ 1 ∷ b ∷ 1 ∷ []

unfoldable pub plan_four : List ℕ
plan_four = 0 ∷ 4 ∷ a ∷ 0 ∷ 1 ∷ c ∷ 1 ∷ b ∷ 0 ∷ 1 ∷ c ∷ 1 ∷ a ∷ 0 ∷ 1 ∷ d ∷ 1 ∷ b ∷ 0 ∷ 1 ∷ d ∷ 1 ∷ []

unfoldable pub instances : List Example
instances =
    -- (v0,v1): rows 0 1 2, tried 6. (a,v0): 0 1, 5. (a,b), an instance of both: 0, 5. (a,a), of (v0,v0) too: 1, 5. (v0,v0): 1 2, 6
    ran three plan_three 6 (v 0 ∷ v 1 ∷ []) (0 ∷ 1 ∷ 2 ∷ []) 6
    ∷ ran three plan_three 6 (a ∷ v 0 ∷ []) (0 ∷ 1 ∷ []) 5
    ∷ ran three plan_three 6 (a ∷ b ∷ []) (0 ∷ []) 5
    ∷ ran three plan_three 6 (a ∷ a ∷ []) (1 ∷ []) 5
    ∷ ran three plan_three 6 (v 0 ∷ v 0 ∷ []) (1 ∷ 2 ∷ []) 6
    -- P2, where (v0,v1) tries 6 and (a,v0) 5: (a,d): row 2, tried 5
    ∷ ran p2 plan2 6 (a ∷ d ∷ []) (2 ∷ []) 5
    -- it may try fewer: (v0,v1) 2, (b,v0) 1
    ∷ ran single (0 ∷ 1 ∷ a ∷ 0 ∷ 1 ∷ a ∷ 1 ∷ []) 2 (v 0 ∷ v 1 ∷ []) (0 ∷ []) 2
    ∷ ran single (0 ∷ 1 ∷ a ∷ 0 ∷ 1 ∷ a ∷ 1 ∷ []) 2 (b ∷ v 0 ∷ []) [] 1
    -- of two plans nothing is said: (v0,c) tries 4 of one, its instance (a,c) 6 of the other
    ∷ ran four plan_two 6 (v 0 ∷ c ∷ []) (0 ∷ 1 ∷ []) 4
    ∷ ran_by four plan_four 8 (a ∷ c ∷ []) (0 ∷ []) 6
    ∷ []

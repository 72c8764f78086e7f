-- By what a plan is least: 01's measure, and that of W-204 for each figure.
use Rattle.std.specs.Prelude.{ℕ, suc, ◌+◌, cond, ◌&&◌, List, [], ◌∷◌, ltb, length}
use Rattle.cell.specs.Cell.{arity, is_var}
use Rattle.refusal.specs.Refusal.{refused}
use Rattle.refusal.specs.declared.Reason.TheVariants as reason
use Rattle.refusal.specs.declared.Input.TheVariants as input
use Rattle.refusal.specs.Read.{Read, when}
use Rattle.table.specs.Table.{Table, table_of, count}
use Rattle.plan.specs.Runs.{Run, runs}
use Rattle.plan.specs.Plans as plans
use Rattle.plan.specs.Plans.{Plan, leaf, node, end, next, Measure, plain, choice}
use Rattle.least.specs.declared.By.{By}
use Rattle.least.specs.declared.By.TheVariants.{Branches, Work}

-- W-204, "a variable's branch costs 0, a number 1, a name 1 plus its arguments"
unfoldable pub work_of : ℕ → ℕ
work_of cell = cond (is_var cell) 0 (suc (arity cell))

-- "and a state with two or more branches adds a figure"
abbrev pub work : ℕ → Measure
work figure = record { weight = work_of; figure = figure }

-- "with 01's old measure as one more"
abbrev pub measure_of : By → Measure
measure_of Branches = plain
measure_of (Work figure) = work figure

-- 02, W-209, "a later meeting costs 1 in W-204": what a branch's cell weighs where the cells in `met` are met on the path down to it. A
-- variable among them weighs 1, which by 01's measure every cell does
abbrev pub weight_at : Measure → List ℕ → ℕ → ℕ
weight_at m met cell = cond (is_var cell && ltb 0 (count cell met)) 1 (m.weight cell)

-- what a plan costs from a state on, where these cells are met on the path down to it
unfoldable mutual
  pub cost_from : Measure → List ℕ → {k : ℕ} {rows : List (List ℕ)} → Plan k rows → ℕ
  cost_from m met leaf = 0
  cost_from m met (node {rows = rows} i h bs) = choice m (length (runs i rows)) + costs_from m met bs

  pub costs_from : Measure → List ℕ → {k : ℕ} {gs : List Run} → plans.Branches k gs → ℕ
  costs_from m met end = 0
  costs_from m met (next {g = g} p bs) = weight_at m met g.cell + (cost_from m (g.cell ∷ met) p + costs_from m met bs)

-- what a plan costs by a measure: the cost that building answers
abbrev pub cost_by : (by : By) {opens : ℕ} {rows : List (List ℕ)} → Plan opens rows → ℕ
cost_by by plan = cost_from (measure_of by) [] plan

-- "FIGURE for a figure above 15, before the table's" refusals: the reading of a table for which a plan is asked by a measure
unfoldable pub table_by : By → List ℕ → Read Table
table_by by cells = when (ltb 15 (measure_of by).figure) (refused reason.Figure input.Figure 0) (table_of cells)

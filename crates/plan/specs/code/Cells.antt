-- What the branches of a plan have of the rows that it is for.
use Rattle.std.specs.Prelude.{ℕ, ◌+◌, ◌≤◌, ◌<◌, ◌≡◌, true, List, length}
use Rattle.cell.specs.Cell.{arity, is_var}
use Rattle.term.specs.Terms.{Terms}
use Rattle.table.specs.All.{All}
use Rattle.plan.specs.Runs.{Run}
use Rattle.plan.specs.Plans.{Plan, leaf, node, Branches, end, next}
use Rattle.limits.specs.Limits.{most_row_cells}

-- a row of k terms in at most 32 cells, each of which has P
pub record Good (P : ℕ → Type 0) (k : ℕ) (r : List ℕ) : Type 0 where
  pub terms : Terms k r
  pub short : length r ≤ most_row_cells
  pub cells : All P r

-- a run of such rows; k places are open beside the one that is looked at. 01, "or the single row's variable": a variable's run has one row.
-- 02, W-208, "a leaf has exactly one row": so has a run below which no place is open
pub record Sound (P : ℕ → Type 0) (k : ℕ) (g : Run) : Type 0 where
  pub cell : P g.cell
  pub lone : is_var g.cell ≡ true → length g.rows ≡ 1
  pub some : 0 < length g.rows
  pub last : arity g.cell + k ≡ 0 → length g.rows ≡ 1
  pub rows : All (Good P (arity g.cell + k)) g.rows

-- each branch of a plan
unfoldable mutual
  pub Cells : (ℕ → Type 0) → {k : ℕ} {rows : List (List ℕ)} → Plan k rows → Type 0
  Cells P leaf = Unit {0}
  Cells P (node i h bs) = CellsIn P bs

  pub CellsIn : (ℕ → Type 0) → {k : ℕ} {gs : List Run} → Branches k gs → Type 0
  CellsIn P end = Unit {0}
  CellsIn P (next {k} {g} p bs) = Sound P k g × Cells P p × CellsIn P bs

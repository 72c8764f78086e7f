-- What the functions that walk over a plan ask and answer.
use Rattle.std.specs.Prelude.{ℕ, ◌+◌, ◌*◌, ◌≤◌, ◌≡◌, Bool, false, eqb, length, drop}
use mathlib.Core.List.{List, ◌++◌, Memᴰ}
use Rattle.term.specs.Terms.{Terms}
use Rattle.plan.specs.Runs.{runs}
use Rattle.plan.specs.Plans.{Plan, leaf, node, write}
use Rattle.answer.specs.Skeleton.{hole, fill}
use Rattle.clauses.specs.code.Walk.{splits}
use Rattle.unfolding.specs.declared.past.Past.{Past}
use Rattle.limits.specs.Limits.{most_plan_cells, most_row_cells}

-- A state with so many open places stands at this place of the plan. The last two bound the numbers: each branch takes a cell of the plan
-- and opens at most 4 places
pub record Stands (plan : List ℕ) (at places : ℕ) : Type 0 where
  pub k : ℕ
  pub rows : List (List ℕ)
  pub tree : Plan k rows
  pub rest : List ℕ
  pub open-places : places ≡ k
  pub cells : drop at plan ≡ write tree ++ rest
  pub wide : places ≤ 4 * at + 8
  pub size : length plan ≤ most_plan_cells

-- the place after a state that stands at a place, and its states with several branches
pub record PastOf {k : ℕ} {rows : List (List ℕ)} (tree : Plan k rows) (at : ℕ) (r : Past) : Type 0 where
  pub ends : r.at ≡ at + length (write tree)
  pub counts : r.splits ≡ splits tree

-- a state with one branch: a straight run goes on there
unfoldable pub goes_on : {k : ℕ} {rows : List (List ℕ)} → Plan k rows → Bool
goes_on leaf = false
goes_on (node {rows = rows} i h bs) = eqb (length (runs i rows)) 1

-- a row of a state with k open places, K being decided on the way: it is so many terms with no hole in them, and fills K to 32 cells at most
pub record Fills (k : ℕ) (K x : List ℕ) : Type 0 where
  pub terms : Terms k x
  pub symbols : ¬ Memᴰ hole x
  pub short : length (fill K x) ≤ most_row_cells

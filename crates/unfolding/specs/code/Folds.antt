-- What the fold of a straight run asks and answers.
use Rattle.std.specs.Prelude.{ℕ, ◌≤◌, ◌<◌, ◌≡◌, cond, List, eqb, length, take}
use Rattle.table.specs.All.{All}
use Rattle.table.specs.Table.{count}
use Rattle.answer.specs.Skeleton.{hole}
use Rattle.clauses.specs.Translate.{head_of}
use Rattle.clauses.specs.code.Walk.{fold_head, fold_body}
use Rattle.unfolding.specs.Flat.{called_in}
use Rattle.unfolding.specs.code.Walk.{Stands, Fills}
use Rattle.unfolding.specs.declared.fold.Fold.{Fold}
use Rattle.limits.specs.Limits.{most_row_cells}

-- a state stands in the plan; the head has its open places, and each of the state's rows fills it
pub record Folds (plan head : List ℕ) (from : Fold) : Type 0 where
  pub stands : Stands plan from.at from.places
  pub some : 0 < length stands.rows
  pub room : length head ≡ most_row_cells
  pub open-here : count hole (take from.cells head) ≡ stands.k
  pub within : from.cells ≤ most_row_cells
  pub fills : All (Fills stands.k (take from.cells head)) stands.rows

-- the head at the end of the run, and what is called there
pub record Folded {plan old : List ℕ} {from : Fold} (w : Folds plan old from) (head : List ℕ) (r : Fold) : Type 0 where
  pub heads : head_of (take r.cells head) ≡ fold_head w.stands.tree (take from.cells old)
  pub bodies : (n : ℕ) → called_in (fold_body w.stands.tree n) ≡ cond (eqb r.places 0) 0 n
  pub room : length head ≡ most_row_cells
  pub within : r.cells ≤ most_row_cells

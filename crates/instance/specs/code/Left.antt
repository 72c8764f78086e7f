-- A row and a goal made equal, cell by cell from the left: what is left to do. The contracts of private functions speak of it; no promise of
-- a public function does.
use Rattle.std.specs.Prelude.{ℕ, ◌≤◌, ◌≡◌, ◌↔◌, List, ◌++◌, length}
use Rattle.term.specs.Terms.{Terms}
use Rattle.term.specs.Unify.{inst, Subst}
use Rattle.term.specs.Bind.{Within}
use Rattle.instance.specs.Instance.{Common}

-- Y is made of S by a substitution that makes the two lists equal
pub record Solves (xs ys S Y : List ℕ) : Type 0 where
  pub by : ℕ → List ℕ
  pub good : Subst by
  pub same : inst by xs ≡ inst by ys
  pub gives : inst by S ≡ Y

-- xs of the row and ys of the goal are left to be made equal, P of the goal being passed: what can be made of the goal so far is just what
-- row and goal have in common. Something can; and there are at most `turns` variables.
pub record Left (row goal xs P ys : List ℕ) (turns : ℕ) : Type 0 where
  pub gives : (Y : List ℕ) → Solves xs ys (P ++ ys) Y ↔ Common row goal Y
  pub made : List ℕ
  pub makes : Common row goal made
  pub owed : ℕ
  pub row-terms : Terms owed xs
  pub goal-terms : Terms owed ys
  pub vars : List ℕ
  pub row_within : Within vars xs
  pub goal-within : Within vars (P ++ ys)
  pub few : length vars ≤ turns

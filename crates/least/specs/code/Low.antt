-- The measures that the code works with: small weights, and a small figure.
use Rattle.std.specs.Prelude.{ℕ, ◌≤◌, ◌≡◌, true}
use Rattle.cell.specs.Cell.{is_var}
use Rattle.plan.specs.Plans.{Measure}

-- a variable weighs at most 1, so that a later meeting, which costs 1, costs no less than a first one
pub record Light (m : Measure) : Type 0 where
  pub variable : (cell : ℕ) → is_var cell ≡ true → m.weight cell ≤ 1

-- a cell has at most 4 arguments, so that it weighs at most 5, and the figure is at most 15
pub record Low (m : Measure) : Type 0 where
  pub light : Light m
  pub weight : (cell : ℕ) → m.weight cell ≤ 5
  pub figure : m.figure ≤ 15

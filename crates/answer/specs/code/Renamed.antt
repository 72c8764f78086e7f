-- A goal, renamed apart from a row, as the steps of a run have it.
use Rattle.std.specs.Prelude.{ℕ, ◌+◌, ◌^◌, ◌≤◌, cond, List, length}
use Rattle.cell.specs.Cell.{is_var}
use Rattle.term.specs.Terms.{Terms}
use Rattle.limits.specs.Limits.{most_row_cells}

-- a variable's cell: the goal's are numbered below 32, those made for arguments from there; all are renamed apart from a row's
abbrev pub var : ℕ → ℕ
var v = 2 ^ 16 + v

-- a goal's cell, renamed apart
unfoldable pub lift : ℕ → ℕ
lift c = cond (is_var c) (var c) c

-- a goal, its variables renamed apart
pub record Goal (w : ℕ) (G : List ℕ) : Type 0 where
  pub terms : Terms w G
  pub short : length G ≤ most_row_cells

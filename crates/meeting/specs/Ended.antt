-- What is answered of a row and a goal (crate instance, specs/code/Meet), made in two lists that are lent: for a hit the most general common
-- instance, or that the lists are too short for it; in lists of 2,048 and 2,049 cells this says that all they have in common is too long. For
-- anything else only that the cells are there.
use Rattle.std.specs.Prelude.{Option, Some, None}
use Rattle.std.specs.Prelude.{ℕ, ◌≤◌, ◌≡◌, List, length}
use Rattle.instance.specs.code.Meet.{Hit, InstanceMet, Over}
use Rattle.limits.specs.Limits.{most_meeting_cells}

-- two lists that are long enough for all that has at most 1,024 cells
pub record Lent (cells other : List ℕ) : Type 0 where
  pub long : length cells ≡ most_meeting_cells
  pub other-long : length other ≡ 2049

pub data Ended (row goal cells other cells' : List ℕ) : Option ℕ → Type 0 where
  ended : {n : ℕ} → n ≤ length cells' → (Hit row goal → InstanceMet row goal cells' n) → Ended row goal cells other cells' (Some n)
  ended-over : (Hit row goal → Lent cells other → Over row goal) → Ended row goal cells other cells' None

-- What the check has answered and noted of a plan (crate plannotes), for a list of goals.
use Rattle.std.specs.Prelude.{ℕ, ◌≤◌, ◌<◌, ◌≡◌, List, length, take}
use Rattle.table.specs.All.{All}
use Rattle.plannotes.specs.Noted.{NotedInto}
use Rattle.plannotes.specs.declared.Noted.{Noted}
use Rattle.answer.specs.Run.{Ascends}
use Rattle.answer.specs.Jobs.{Asked}
use Rattle.answer.specs.declared.Job.{Job}
use Rattle.limits.specs.Limits.{most_rows}

-- what a record becomes, for the table and the plan of which this is noted
abbrev pub AskedBy : (numbers : List ℕ) (noted : Noted) (cells : List ℕ) → Job → Job → Type 0
AskedBy numbers noted cells j j' = (table plan before : List ℕ) → NotedInto table plan before numbers noted → Asked table plan cells j j'

-- the first n of 64 bytes are numbers of rows, from the top down
pub record Hits (room : List ℕ) (n : ℕ) : Type 0 where
  pub size : length room ≡ most_rows
  pub few : n ≤ most_rows
  pub ascends : Ascends 0 (take n room)
  pub low : All (λ x. x < most_rows) (take n room)

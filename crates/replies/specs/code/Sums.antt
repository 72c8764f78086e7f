-- What a pass over the hits has found (crate instance, specs/code/Passes), by the code's own types.
use Rattle.std.specs.Prelude.{ℕ, ◌≤◌, ◌<◌, List, length, Option, Some, None}
use Rattle.table.specs.All.{All}
use Rattle.table.specs.Table.{table_of, row_in}
use Rattle.instance.specs.Reply.{Large}
use Rattle.instance.specs.code.Passes.{RepliesAt, Held, Pass, Passed}
use Rattle.replies.specs.declared.pass.Done.{Done}
use Rattle.limits.specs.Limits.{most_rows}

-- the hits of an accepted table, with their replies
pub record Passing (table starts : List ℕ) (rows : ℕ) (goal hits : List ℕ) (all : List (List ℕ)) : Type 0 where
  pub held : Held table starts rows
  pub below : All (λ (r : ℕ). r < rows) hits
  pub few : length hits ≤ most_rows
  pub at : RepliesAt (row_in (table_of table)) goal hits all

-- so many of the hits are done; the numbers are in bounds whatever was given
pub record Upto (table starts : List ℕ) (rows : ℕ) (goal hits room room' : List ℕ) (r : Done) : Type 0 where
  pub within : r.hits ≤ length hits
  pub inside : r.on ≤ length room
  pub small : r.cells ≤ 131072
  pub pass : (all : List (List ℕ)) → Passing table starts rows goal hits all → Pass table goal hits r.hits all room room' r.on r.cells

-- one that is not done has over 1,024 cells
abbrev pub Stops : (table starts : List ℕ) (rows : ℕ) (goal hits : List ℕ) → Done → Type 0
Stops table starts rows goal hits r = (all : List (List ℕ)) → Passing table starts rows goal hits all → r.hits < length hits → Large all

pub data PassedAt (room room' : List ℕ) (all : List (List ℕ)) : Option ℕ → Type 0 where
  passed : {n : ℕ} → Passed room room' all n → PassedAt room room' all (Some n)
  passed_over : Large all → PassedAt room room' all None

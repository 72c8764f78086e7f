-- A goal of a list whose replies are wanted, as the code asks it: what is held for every goal, and what is done after the run.
use Rattle.std.specs.Prelude.{Result, ℕ, ◌≡◌, List, ◌++◌, take, drop}
use Rattle.instance.specs.declared.ReplyCounts.{ReplyCounts}
use Rattle.refusal.specs.declared.Refusal.{Refusal}
use Rattle.refusal.specs.Refusal.{Refused, answered, turned}
use Rattle.table.specs.Table.{table_of, starts_in}
use Rattle.plannotes.specs.Noted.{NotedInto}
use Rattle.plannotes.specs.declared.Noted.{Noted}
use Rattle.instance.specs.Replied.{Replied, replies_told}
use Rattle.instance.specs.ReplyJobs.{declined, reply_filled}
use Rattle.instance.specs.declared.ReplyJob.{ReplyJob}

-- of some plan for the table: what the check has answered and noted, and where the table's rows start
pub record Ready (table numbers starts : List ℕ) (noted : Noted) : Type 0 where
  pub plan : List ℕ
  pub before : List ℕ
  pub handed : NotedInto table plan before numbers noted
  pub begin : starts ≡ starts_in (table_of table)

-- what the record of a goal becomes that a run has answered, and the room: the replies stand from the record's place on
pub data Placed (table plan goal room room' : List ℕ) (j j' : ReplyJob) : Type 0 where
  no_place : (f : Refused) (after : List ℕ) (r : Result ReplyCounts Refusal) → Replied table plan goal (drop j.at room) after r
      → replies_told r ≡ turned f → j' ≡ declined j f.number f.place → room' ≡ room → Placed table plan goal room room' j j'
  placed : (many size : ℕ) (after : List ℕ) (r : Result ReplyCounts Refusal) → Replied table plan goal (drop j.at room) after r
      → replies_told r ≡ answered many size → j' ≡ reply_filled j 0 0 j.at many size j.hits j.tried
      → room' ≡ take j.at room ++ after → Placed table plan goal room room' j j'

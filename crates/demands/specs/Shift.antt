-- A whole shift's jobs in one call (02, W-202), sentence by sentence, as a statement of what the entry is given and what it answers.
-- proofs/Shift proves it of the entry's promise, and src/lib.rt ties it to the entry.
--
-- `cells` and `plan` are the cells of table and plan, `lent` those among which the goals' cells lie; `jobs` and `after` are the records
-- before and after the call.
use Rattle.std.specs.Prelude.{Result, ℕ, ◌+◌, ◌^◌, ◌≤◌, ◌<◌, ◌≡◌, ◌↔◌, List, [], length, get_or, take, drop, replicate}
use Rattle.answer.specs.declared.RunCounts.{RunCounts}
use Rattle.refusal.specs.declared.Refusal.{Refusal}
use Rattle.term.specs.Unify.{Matches}
use Rattle.refusal.specs.Refusal.{Refused, Answer, turned, answered}
use Rattle.refusal.specs.Read.{read, refuse}
use Rattle.table.specs.Table.{goal_of, IsTable, IsGoal}
use Rattle.plan.specs.Plans.{Plan, write}
use Rattle.plan.specs.Check.{plan_of}
use Rattle.answer.specs.declared.Job.{Job}
use Rattle.answer.specs.Skeleton.{hole}
use Rattle.answer.specs.Run.{Counts, skeletons, Tried, Ran}
use Rattle.answer.specs.Jobs.{bit, entered, Each}

-- "says where its cells start and how many there are"
abbrev pub goal_in : List ℕ → Job → List ℕ
goal_in lent j = take j.count (drop j.start lent)

-- "A refused goal's record holds number and place, with hits and tried 0": the four words that the call writes
pub record JobHolds (after : Job) (number place hits tried : ℕ) : Type 0 where
  pub number_is : after.number ≡ number
  pub place_is : after.place ≡ place
  pub hits-is : after.hits ≡ hits
  pub tried-is : after.tried ≡ tried

-- "an answered one's are 0 and 0", and it holds "the hit rows as 64 bits and the branches tried" (demand 2, of this goal)
pub record JobAnswered {width : ℕ} {rows : List (List ℕ)} (tree : Plan width rows) (goal : List ℕ) (after : Job) : Type 0 where
  pub number-zero : after.number ≡ 0
  pub place-zero : after.place ≡ 0
  pub bits : after.hits < 2 ^ 64
  pub hit-rows : (r : ℕ) → (bit r after.hits ≡ 1) ↔ ((r < length rows) × Matches (get_or rows r []) goal)
  pub branches : Counts (Tried goal) (skeletons tree (replicate width hole)) after.tried

-- one record, where table and plan are accepted
pub record OneJob (cells plan lent : List ℕ) {width : ℕ} {rows : List (List ℕ)} (tree : Plan width rows) (j after : Job) : Type 0 where
  -- "Start and count stay."
  pub start-stays : after.start ≡ j.start
  pub count-stays : after.count ≡ j.count
  -- "a start or count past the lent cells is that goal's LENGTH"
  pub past : length lent < j.start + j.count → JobHolds after 1 0 0 0
  -- "It equals asking one by one": the record is what a run of the goal by itself gives, in any room with a byte for each row
  pub equals : j.start + j.count ≤ length lent → (room room' : List ℕ) (r : Result RunCounts Refusal) → length rows ≤ length room
      → Ran cells plan (goal_in lent j) room room' r → after ≡ entered j r room'
  pub refused : j.start + j.count ≤ length lent → (f : Refused) → goal_of width (goal_in lent j) ≡ refuse f
      → JobHolds after f.number f.place 0 0
  pub answers : j.start + j.count ≤ length lent → IsGoal width (goal_in lent j) → JobAnswered tree (goal_in lent j) after

-- the whole list. "Refusals: table and plan as in 01, for the whole call, no record touched"
pub record Shift (cells plan lent : List ℕ) (jobs after : List Job) (answer : Answer) : Type 0 where
  pub refuses : (f : Refused) → (answer ≡ turned f) ↔ (plan_of cells plan ≡ refuse f)
  pub untouched : (f : Refused) → answer ≡ turned f → after ≡ jobs
  pub accepts : (b : ℕ) → plan_of cells plan ≡ read b → answer ≡ answered b 0
  pub each : (width : ℕ) (rows : List (List ℕ)) (tree : Plan width rows) → IsTable cells width rows → write tree ≡ plan
      → Each (OneJob cells plan lent tree) jobs after

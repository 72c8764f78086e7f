-- A shift's replies in one call, sentence by sentence, as a statement of what the entry is given and what it answers. Nothing new is said of a goal:
-- its replies are W-203's (crate instance, specs/Replied; specs/Replies here), hits and tried are those of its record by W-202 (specs/Shift).
-- proofs/ReplyShift proves it of the entry's promise, and src/lib.rt ties it to the entry.
--
-- `cells` and `plan` are the cells of table and plan, `lent` those among which the goals' cells lie; `room` and `room'`, `jobs` and `after` are the
-- room and the records before and after the call.
use Rattle.std.specs.Prelude.{Result, ℕ, ◌+◌, ◌≤◌, ◌<◌, ◌≡◌, ◌↔◌, List, [], ◌∷◌, ◌++◌, length, drop}
use Rattle.instance.specs.declared.ReplyCounts.{ReplyCounts}
use Rattle.refusal.specs.declared.Refusal.{Refusal}
use Rattle.refusal.specs.Refusal.{Refused, Answer, turned, answered}
use Rattle.refusal.specs.Read.{read, refuse}
use Rattle.plan.specs.Check.{plan_of}
use Rattle.answer.specs.declared.Job.{Job}
use Rattle.answer.specs.Jobs.{Asked}
use Rattle.instance.specs.declared.ReplyJob.{ReplyJob}
use Rattle.instance.specs.Replied.{Replied, replies_told}
use Rattle.instance.specs.ReplyJobs.{goal_of_job}

-- "A refused record has 0 in at, replies, cells, hits, tried": the seven words that the call writes
pub record Declined (after : ReplyJob) (number place : ℕ) : Type 0 where
  pub number_is : after.number ≡ number
  pub place_is : after.place ≡ place
  pub at_zero : after.at ≡ 0
  pub replies-zero : after.replies ≡ 0
  pub cells-zero : after.cells ≡ 0
  pub hits-zero : after.hits ≡ 0
  pub tried-zero : after.tried ≡ 0

-- "an answered one has number and place 0, and `at` is where its replies begin (also where there are none)"; hits and tried as in the record that
-- the goal has in a list by itself
pub record ReplyAnswered (cells plan lent : List ℕ) (on replies size : ℕ) (j after : ReplyJob) : Type 0 where
  pub number-zero : after.number ≡ 0
  pub place-zero : after.place ≡ 0
  pub at-is : after.at ≡ on
  pub replies-is : after.replies ≡ replies
  pub cells_is : after.cells ≡ size
  pub as-run : (k k' : Job) → k.start ≡ j.start → k.count ≡ j.count → Asked cells plan lent k k'
      → (after.hits ≡ k'.hits) × (after.tried ≡ k'.tried)

-- one record, where table and plan are accepted and the goals before it have taken `on` cells of the room; `said` is what it writes there
pub record OneReply (cells plan lent room : List ℕ) (on : ℕ) (j after : ReplyJob) (said : List ℕ) : Type 0 where
  -- "as `dudowiej_run_jobs`": start and count stay
  pub start-stays : after.start ≡ j.start
  pub count-stays : after.count ≡ j.count
  pub size : after.cells ≡ length said
  -- a start or count past the lent cells is that goal's LENGTH
  pub past : length lent < j.start + j.count → Declined after 1 0
  -- "It equals asking one by one with what is left of the room": what W-203's promise allows for the goal and the rest of the room, and there is
  -- such an answer. So "a goal whose replies do not fit what is left is ROOM in its own record, with the cells that it needs as place, and writes
  -- nothing; BIG likewise"
  pub asked : j.start + j.count ≤ length lent
      → (left : List ℕ) × (r : Result ReplyCounts Refusal) × Replied cells plan (goal_of_job lent j) (drop on room) left r
  pub refused : j.start + j.count ≤ length lent → (f : Refused) (left : List ℕ) (r : Result ReplyCounts Refusal)
      → Replied cells plan (goal_of_job lent j) (drop on room) left r → replies_told r ≡ turned f → Declined after f.number f.place
  pub answers : j.start + j.count ≤ length lent → (n m : ℕ) (left : List ℕ) (r : Result ReplyCounts Refusal)
      → Replied cells plan (goal_of_job lent j) (drop on room) left r → replies_told r ≡ answered n m
      → ReplyAnswered cells plan lent on n m j after × (left ≡ said ++ drop (length said) (drop on room))

-- "the replies follow one another in the order of the jobs", "goals after it are still answered": each record with what those before it have
-- left, by the cells that they say; `all` is what they write together
pub data InTurn (cells plan lent room : List ℕ) : (on : ℕ) (jobs after : List ReplyJob) (all : List ℕ) → Type 0 where
  nil : {on : ℕ} → InTurn cells plan lent room on [] [] []
  cons : {on : ℕ} {j k : ReplyJob} {js ks : List ReplyJob} {said all : List ℕ} → OneReply cells plan lent room on j k said
      → InTurn cells plan lent room (on + k.cells) js ks all → InTurn cells plan lent room on (j ∷ js) (k ∷ ks) (said ++ all)

-- what an accepted list leaves: the records, and in the room all replies from its first cell on, the rest untouched
pub record ListReplied (cells plan lent room room' : List ℕ) (jobs after : List ReplyJob) : Type 0 where
  pub all : List ℕ
  pub each : InTurn cells plan lent room 0 jobs after all
  pub wrote : room' ≡ all ++ drop (length all) room

-- the whole call. "Table and plan are checked once": where one is refused, so is the call, and nothing is touched
pub record ReplyShift (cells plan lent room room' : List ℕ) (jobs after : List ReplyJob) (answer : Answer) : Type 0 where
  pub refuses : (f : Refused) → (answer ≡ turned f) ↔ (plan_of cells plan ≡ refuse f)
  pub untouched : (f : Refused) → answer ≡ turned f → (after ≡ jobs) × (room' ≡ room)
  pub accepts : (b : ℕ) → plan_of cells plan ≡ read b → answer ≡ answered b 0
  pub lists : (b : ℕ) → plan_of cells plan ≡ read b → ListReplied cells plan lent room room' jobs after

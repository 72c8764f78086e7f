-- What a list of goals becomes whose replies are wanted too (02, W-202 and W-203 in one call): "as `dudowiej_run_jobs`, each record also saying
-- where its replies stand in the room, how many and how many cells". Nothing new is said of a goal: a run answers its record (W-202), and the
-- replies are those that it gets alone (W-203).
use Rattle.std.specs.Prelude.{Result, Ok, ℕ, ◌+◌, ◌≤◌, ◌<◌, ◌≡◌, List, [], ◌∷◌, ◌++◌, length, take, drop, replicate}
use Rattle.instance.specs.declared.ReplyCounts.{ReplyCounts}
use Rattle.refusal.specs.declared.Refusal.{Refusal}
use Rattle.refusal.specs.Refusal.{Refused, reason_number, Answer, answered, turned}
use Rattle.refusal.specs.declared.Reason.TheVariants as reason
use Rattle.refusal.specs.Read.{read, refuse}
use Rattle.plan.specs.Check.{plan_of}
use Rattle.answer.specs.Run.{Ran}
use Rattle.answer.specs.Jobs.{bits_of}
use Rattle.instance.specs.Replied.{Replied, replies_told}
use Rattle.instance.specs.declared.ReplyJob.{ReplyJob}
use Rattle.limits.specs.Limits.{most_rows}

-- "Start and count stay": a record with the other seven numbers written
abbrev pub reply_filled : ReplyJob → (number place at replies cells hits tried : ℕ) → ReplyJob
reply_filled j number place at replies cells hits tried =
    record { start = j.start; count = j.count; number = number; place = place; at = at; replies = replies; cells = cells; hits = hits; tried = tried }

-- "A refused goal's record holds number and place", and 0 in all that is left
abbrev pub declined : ReplyJob → (number place : ℕ) → ReplyJob
declined j number place = reply_filled j number place 0 0 0 0 0

-- the goal that a record speaks of
abbrev pub goal_of_job : List ℕ → ReplyJob → List ℕ
goal_of_job cells j = take j.count (drop j.start cells)

-- what one record and the room become, where `on` cells of the room are taken. "a start or count past the lent cells is that goal's LENGTH";
-- otherwise "It equals asking one by one with what is left of the room": what is refused so, BIG and ROOM too, is refused in the record, and
-- nothing is written; what is answered so is written there, and the record says where
pub data ReplyAsked (t p cells : List ℕ) (on : ℕ) (room room' : List ℕ) (j j' : ReplyJob) : Type 0 where
  outside : length cells < j.start + j.count → j' ≡ declined j (reason_number reason.Length) 0 → room' ≡ room
      → ReplyAsked t p cells on room room' j j'
  refused : (f : Refused) (after : List ℕ) (r : Result ReplyCounts Refusal) → j.start + j.count ≤ length cells
      → Replied t p (goal_of_job cells j) (drop on room) after r → replies_told r ≡ turned f
      → j' ≡ declined j f.number f.place → room' ≡ room → ReplyAsked t p cells on room room' j j'
  replied : (many size hits tried : ℕ) (after bytes : List ℕ) (r : Result ReplyCounts Refusal) → j.start + j.count ≤ length cells
      → Replied t p (goal_of_job cells j) (drop on room) after r → replies_told r ≡ answered many size
      → Ran t p (goal_of_job cells j) (replicate most_rows 0) bytes (Ok (record { hits = hits; tried = tried }))
      → j' ≡ reply_filled j 0 0 on many size (bits_of (take hits bytes)) tried → room' ≡ take on room ++ after
      → ReplyAsked t p cells on room room' j j'

-- "the replies follow one another in the order of the jobs", "goals after it are still answered": record by record, each with what the ones
-- before it have left of the room
pub data RepliesEach (t p cells : List ℕ) : (on : ℕ) (room room' : List ℕ) (jobs jobs' : List ReplyJob) → Type 0 where
  nil : {on : ℕ} {room : List ℕ} → RepliesEach t p cells on room room [] []
  cons : {on : ℕ} {room between room' : List ℕ} {j j' : ReplyJob} {js js' : List ReplyJob} → ReplyAsked t p cells on room between j j'
      → RepliesEach t p cells (on + j'.cells) between room' js js' → RepliesEach t p cells on room room' (j ∷ js) (j' ∷ js')

-- what the call answers, and what records and room then hold. W-202, "Refusals: table and plan as in 01, for the whole call, no record touched"
pub data ReplyJobsRun (t p cells room room' : List ℕ) (jobs jobs' : List ReplyJob) (told : Answer) : Type 0 where
  refusal : (f : Refused) → plan_of t p ≡ refuse f → told ≡ turned f → jobs' ≡ jobs → room' ≡ room
      → ReplyJobsRun t p cells room room' jobs jobs' told
  asked : (n : ℕ) → plan_of t p ≡ read n → told ≡ answered n 0 → RepliesEach t p cells 0 room room' jobs jobs'
      → ReplyJobsRun t p cells room room' jobs jobs' told

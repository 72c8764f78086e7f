-- What the entries answer as one number (crate refusal, specs/Coded), where the crates that they call do not say it.
use Rattle.std.specs.Prelude.{ℕ, ◌%◌, ◌^◌, ◌≡◌, cond, List, [], ◌∷◌, length, get_or, Result, Ok, Err}
use Rattle.instance.specs.declared.ReplyCounts.{ReplyCounts}
use Rattle.builder.specs.declared.BuiltPlan.{BuiltPlan}
use Rattle.answer.specs.declared.RunCounts.{RunCounts}
use Rattle.refusal.specs.Refusal.{Answer, answered, turned, told}
use Rattle.refusal.specs.Read.{Read}
use Rattle.refusal.specs.Coded.{coded, Small}
use Rattle.refusal.specs.declared.Refusal.{Refusal}
use Rattle.table.specs.Table.{Table, starts_in, row_in}
use Rattle.checker.specs.Checked.{plan_told}
use Rattle.least.specs.declared.By.TheVariants.{Work}
use Rattle.builder.specs.Build.{BuiltInto, build_told}
use Rattle.liked.specs.Liked.{LikedInto}
use Rattle.record.specs.Record.{cells_in, Holds, table_in}
use Rattle.record.specs.Edits.{Edit, WorkedOut, Edited}
use Rattle.loading.specs.Load.{TextLoads}
use Rattle.goaltext.specs.declared.GoalTextSize.{GoalTextSize}
use Rattle.goaltext.specs.Asked.{goal_text_told}
use Rattle.goalroom.specs.Rooms.{GoalInto}
use Rattle.answerroom.specs.declared.AnswerTextSize.{AnswerTextSize}
use Rattle.answerroom.specs.Room.{AnswerInto, answer_told}
use Rattle.answer.specs.Run.{Ran, run_told}
use Rattle.answer.specs.declared.Job.{Job}
use Rattle.answer.specs.Jobs.{JobsRun}
use Rattle.instance.specs.Replied.{Replied, replies_told}
use Rattle.instance.specs.declared.ReplyJob.{ReplyJob}
use Rattle.instance.specs.ReplyJobs.{ReplyJobsRun}
use Rattle.clauses.specs.declared.ProgramSize.{ProgramSize}
use Rattle.clauses.specs.Handed.{Handed, hand_told}
use Rattle.filing.specs.Files.{FileWritten, FileLoaded}
use Rattle.salvaging.specs.Salvage.{Outcome, saved, lost, Salvaged}

-- where a row's cells start in the table, and how many they are; both 0 where there is no such row
abbrev pub row_says : Read Table → ℕ → Answer
row_says t r = answered (get_or (starts_in t) r 0) (length (row_in t r))

-- what the entry of a run answers and leaves in the room
pub record RunCoded (cells plan goal room after : List ℕ) (number : ℕ) : Type 0 where
  pub answer : Result RunCounts Refusal
  pub ran : Ran cells plan goal room after answer
  pub code : number ≡ coded (run_told answer)

-- what working a record out answers and leaves in it
pub record WorkCoded (figure : ℕ) (cells rec after : List ℕ) (number : ℕ) : Type 0 where
  pub told : Answer
  pub worked : WorkedOut figure cells rec after told
  pub code : number ≡ coded told

-- what an edit of a record that holds a table answers and leaves in it
pub record EditSays (e : Edit) (figure : ℕ) (T : Table) (rec after : List ℕ) (number : ℕ) : Type 0 where
  pub told : Answer
  pub edited : Edited e figure T rec after told
  pub code : number ≡ coded told

abbrev pub EditCoded : Edit → (rec after : List ℕ) → ℕ → Type 0
EditCoded e rec after number = (figure : ℕ) (T : Table) → Holds rec figure T → EditSays e figure T rec after number

-- what the builder answers and leaves in the room for a record that holds a table: the plan by the record's figure (W-204)
pub record BuildSays (figure : ℕ) (T : Table) (room after : List ℕ) (number : ℕ) : Type 0 where
  pub answer : Result BuiltPlan Refusal
  pub built : BuiltInto (Work figure) [] (cells_in T) room after answer
  pub code : number ≡ coded (build_told answer)

abbrev pub BuildCoded : (rec room after : List ℕ) → ℕ → Type 0
BuildCoded rec room after number = (figure : ℕ) (T : Table) → Holds rec figure T → BuildSays figure T room after number

-- what the builder for named columns answers and leaves in the room: the plan by the record's figure for the cells of its table, of any record
-- at all (W-213)
pub record BuildForCoded (rec columns room after : List ℕ) (number : ℕ) : Type 0 where
  pub answer : Result BuiltPlan Refusal
  pub built : BuiltInto (Work (get_or rec 1 0)) columns (table_in rec) room after answer
  pub code : number ≡ coded (build_told answer)

-- what the builder of the plan that a list of goals likes best answers and leaves in the room and in its record, of any record of a table at all
pub record LikedCoded (rec goals list room liked after liked' : List ℕ) (number : ℕ) : Type 0 where
  pub answer : Result BuiltPlan Refusal
  pub built : LikedInto (Work (get_or rec 1 0)) (table_in rec) goals list room after liked liked' answer
  pub code : number ≡ coded (build_told answer)

-- what the entry for a text answers and leaves in the two rooms
pub record TextCoded (text cells names cells' names' : List ℕ) (number : ℕ) : Type 0 where
  pub answer : Answer
  pub loaded : TextLoads text cells names cells' names' answer
  pub code : number ≡ coded answer

-- what the entry for a goal's text answers and leaves in the two rooms
pub record GoalTextCoded (text names goal cells cells' new new' : List ℕ) (number : ℕ) : Type 0 where
  pub answer : Result GoalTextSize Refusal
  pub into : GoalInto text names goal cells cells' new new' answer
  pub code : number ≡ coded (goal_text_told answer)

-- what the entry for an answer's text answers and leaves in the room. The bytes fit their bits, for a listed name has 16 bits for its own
pub record AnswerCoded (text names goal new cells room room' : List ℕ) (number : ℕ) : Type 0 where
  pub answer : Result AnswerTextSize Refusal
  pub into : AnswerInto text names goal new cells room room' answer
  pub small : Small (answer_told answer)
  pub code : number ≡ coded (answer_told answer)

-- what the entry of a list of goals answers and leaves in the records
pub record JobsCoded (cells plan lent : List ℕ) (jobs after : List Job) (number : ℕ) : Type 0 where
  pub told : Answer
  pub ran : JobsRun cells plan lent jobs after told
  pub code : number ≡ coded told

-- what the entry for replies answers and leaves in the room
pub record RepliesCoded (cells plan goal room after : List ℕ) (number : ℕ) : Type 0 where
  pub answer : Result ReplyCounts Refusal
  pub replied : Replied cells plan goal room after answer
  pub code : number ≡ coded (replies_told answer)

-- what the entry for the replies to a list of goals answers and leaves in the records and in the room
pub record ReplyJobsCoded (cells plan lent room room' : List ℕ) (jobs after : List ReplyJob) (number : ℕ) : Type 0 where
  pub answer : Result ℕ Refusal
  pub ran : ReplyJobsRun cells plan lent room room' jobs after (plan_told answer)
  pub code : number ≡ coded (plan_told answer)

-- what the entry that hands a plan back answers and leaves in the room. The bytes fit their bits, for a listed name has 16 bits for its own:
-- that is said here, since lists of names in `Handed` are of any numbers
pub record ClausesCoded (cells plan text names room after : List ℕ) (number : ℕ) : Type 0 where
  pub answer : Result ProgramSize Refusal
  pub handed : Handed cells plan text names room after answer
  pub small : Small (hand_told answer)
  pub code : number ≡ coded (hand_told answer)

-- an answer with as much of a refusal's place as its 48 bits hold. Only DAMAGE's place, and ROOM's where it counts bad blocks, can be more, of a
-- file of 2^57 bytes
abbrev pub cut : Answer → Answer
cut (answered first second) = answered first second
cut (turned f) = turned (record { number = f.number; input = f.input; place = f.place % 2 ^ 48 })

-- what is answered for what was done, or for a refusal
abbrev pub told_by : {T : Type 0} → (T → Answer) → Result T Refusal → Answer
told_by said (Ok done) = said done
told_by said (Err f) = turned (told f)

-- what the entry that writes a file answers and leaves in the room
pub record FileWriteCoded (cells plan room after : List ℕ) (number : ℕ) : Type 0 where
  pub told : Answer
  pub wrote : FileWritten cells plan room after told
  pub code : number ≡ coded told

-- what the entry that reads a file answers and leaves in the two rooms
pub record FileReadCoded (file table plan table' plan' : List ℕ) (number : ℕ) : Type 0 where
  pub told : Answer
  pub loaded : FileLoaded file table plan table' plan' told
  pub code : number ≡ coded (cut told)

-- what is answered for a bad file that was saved, and for one that was not
abbrev pub salvage_says : Outcome → Answer
salvage_says (saved r) = answered r.rows r.dropped
salvage_says (lost f) = turned f

-- and what its report then holds: six numbers, whether the plan was kept as 1 or 0; a refusal writes none
abbrev pub report_after : Outcome → List ℕ → List ℕ
report_after (saved r) report = r.rows ∷ r.dropped ∷ cond r.keeps 1 0 ∷ r.table ∷ r.plan ∷ r.bad ∷ []
report_after (lost f) report = report

-- what the entry that saves a bad file answers and leaves in the three rooms and in the report
pub record SalvageCoded (file table plan bad report table' plan' bad' report' : List ℕ) (number : ℕ) : Type 0 where
  pub told : Outcome
  pub had : Salvaged file table plan bad table' plan' bad' told
  pub reports : report' ≡ report_after told report
  pub code : number ≡ coded (cut (salvage_says told))

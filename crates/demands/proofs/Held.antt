-- "How closely it is held" (document 01), sentence by sentence, of what the entries promise. The promises are listed in proofs/Demands.
use Rattle.std.specs.Prelude.{Result}
use Rattle.instance.specs.declared.ReplyCounts.{ReplyCounts}
use Rattle.builder.specs.declared.BuiltPlan.{BuiltPlan}
use Rattle.answer.specs.declared.RunCounts.{RunCounts}
use Rattle.refusal.specs.declared.Refusal.{Refusal}
use Prim.Native.Nat.{ℕ}
use mathlib.Core.Path.{◌≡◌}
use mathlib.Core.List.{List}
use Rattle.refusal.specs.Refusal.{Answer}
use Rattle.refusal.specs.Coded.{coded, Small}
use Rattle.refusal.proofs.CodedLaws.{coded-one}
use Rattle.table.specs.declared.TableRead.{TableRead}
use Rattle.table.specs.declared.GoalSize.{GoalSize}
use Rattle.table.specs.declared.Part.{Part}
use Rattle.table.specs.Table.{Table, table_of, goal_of, goal_with, goal_told, goal_says, row_of, row_told}
use Rattle.table.specs.Table.{TableReads, row_in, RowPlace}
use Rattle.table.proofs.Fixed.{table-fixed, goal-for-fixed, goal-fixed, row-beside-fixed, place-fixed, row-fixed}
use Rattle.plan.specs.Check.{plan_of, plan_under}
use Rattle.checker.specs.Checked.{plan_told, plan_says}
use Rattle.checker.proofs.Fixed.{plan-fixed, under-fixed}
use Rattle.plannotes.specs.declared.Noted.{Noted}
use Rattle.plannotes.specs.Noted.{NotedInto}
use Rattle.plannotes.proofs.Fixed.{handed-fixed}
use Rattle.least.specs.declared.By.{By}
use Rattle.record.specs.Record.{Holds}
use Rattle.record.specs.Edits.{Edit}
use Rattle.builder.specs.Build.{BuiltInto}
use Rattle.builder.proofs.Fixed.{build-fixed}
use Rattle.answer.specs.Run.{Ran}
use Rattle.answer.proofs.Fixed.{run-fixed}
use Rattle.printing.specs.Printing.{Written}
use Rattle.listing.specs.Listing.{Lists}
use Rattle.listing.proofs.Fixed.{written_one}
use Rattle.textlines.specs.Lines.{Prints}
use Rattle.textlines.proofs.Fixed.{printed-one}
use Rattle.loading.specs.Load.{TextLoads}
use Rattle.prolog.specs.Entry.{text_told}
use Rattle.prolog.specs.declared.TextSize.{TextSize}
use Rattle.prolog.proofs.Fixed.{read-text-fixed}
use Rattle.dudowiej.specs.Coded.{WorkCoded, EditCoded, BuildCoded, BuildForCoded, RunCoded, TextCoded, JobsCoded, RepliesCoded, ClausesCoded}
use Rattle.dudowiej.specs.Coded.{GoalTextCoded, AnswerCoded, ReplyJobsCoded, FileWriteCoded, FileReadCoded, SalvageCoded, LikedCoded}
use Rattle.dudowiej.proofs.Fixed.{work-coded-fixed, edit-coded-fixed, build-coded-fixed, run-coded-fixed, text-coded-fixed, jobs-coded-fixed}
use Rattle.dudowiej.proofs.Fixed.{replies-coded-fixed, build-for-coded-fixed, liked-coded-fixed}
use Rattle.dudowiej.proofs.Fixed.{goal-text-coded-fixed, answer-coded-fixed, reply-jobs-coded-fixed, clauses-coded-fixed, written-coded-fixed}
use Rattle.dudowiej.proofs.Fixed.{loaded-coded-fixed, salvage-coded-fixed}
use Rattle.answer.specs.declared.Job.{Job}
use Rattle.answer.specs.Jobs.{JobsRun}
use Rattle.shift.proofs.Fixed.{run-jobs-fixed}
use Rattle.instance.specs.Replied.{Replied}
use Rattle.instance.proofs.Fixed.{replied-fixed}
use Rattle.instance.specs.declared.ReplyJob.{ReplyJob}
use Rattle.instance.specs.ReplyJobs.{ReplyJobsRun}
use Rattle.replyjobs.proofs.Fixed.{reply-jobs-fixed}
use Rattle.clauses.specs.declared.ProgramSize.{ProgramSize}
use Rattle.clauses.specs.Handed as hands
use Rattle.clauses.proofs.Fixed as clauses
use Rattle.filing.specs.Files.{FileWritten, FileLoaded}
use Rattle.filing.specs.Answers.{written_told, contents_told}
use Rattle.filing.specs.declared.Written as filed
use Rattle.filing.specs.declared.Contents.{Contents}
use Rattle.filing.proofs.Fixed.{write-file-fixed, read-file-fixed}
use Rattle.salvaging.specs.Salvage.{Salvaged}
use Rattle.salvaging.specs.Answers.{salvage_told}
use Rattle.salvaging.specs.declared.Report.{Report}
use Rattle.salvaging.proofs.Fixed.{salvage-fixed}

-- "For all inputs, refused ones too, the promise of a public function determines the result and the final contents of the lent room; the
-- team proves that two results allowed by it are equal". The small functions of cell, term, goal and state have theirs in proofs/Fixed of
-- those crates; an exported entry without room promises an equation.
pub held-table : (t : List ℕ) {r s : Result TableRead Refusal} → TableReads (table_of t) r → TableReads (table_of t) s → r ≡ s
held-table = table-fixed

pub held-row-place : (t : List ℕ) (j : ℕ) {r s : Part} → RowPlace (table_of t) j r → RowPlace (table_of t) j s → r ≡ s
held-row-place = place-fixed

pub held-row : (t : List ℕ) (j : ℕ) {r s : List ℕ} → r ≡ row_in (table_of t) j → s ≡ row_in (table_of t) j → r ≡ s
held-row = row-fixed

pub held-goal : (t g : List ℕ) {r s : Result GoalSize Refusal} → goal_told r ≡ goal_says g (goal_with t g) → goal_told s ≡ goal_says g (goal_with t g) → r ≡ s
held-goal = goal-fixed

pub held-goal-for : (w : ℕ) (g : List ℕ) {r s : Result GoalSize Refusal} → goal_told r ≡ goal_says g (goal_of w g) → goal_told s ≡ goal_says g (goal_of w g)
    → r ≡ s
held-goal-for = goal-for-fixed

pub held-row-beside : (w : ℕ) (others : List (List ℕ)) (row : List ℕ) {r s : Result ℕ Refusal} → row_told r ≡ row_of w others row
    → row_told s ≡ row_of w others row → r ≡ s
held-row-beside = row-beside-fixed

pub held-check : (t p : List ℕ) {r s : Result ℕ Refusal} → plan_told r ≡ plan_says (plan_of t p) → plan_told s ≡ plan_says (plan_of t p) → r ≡ s
held-check = plan-fixed

pub held-check-for : (t columns p : List ℕ) {r s : Result ℕ Refusal} → plan_told r ≡ plan_says (plan_under t columns p)
    → plan_told s ≡ plan_says (plan_under t columns p) → r ≡ s
held-check-for = under-fixed

pub held-noted : {t p before after after' : List ℕ} {r s : Noted} → NotedInto t p before after r → NotedInto t p before after' s
    → (r ≡ s) × (after ≡ after')
held-noted = handed-fixed

pub held-build : {by : By} {columns t room room' room'' : List ℕ} {r s : Result BuiltPlan Refusal} → BuiltInto by columns t room room' r
    → BuiltInto by columns t room room'' s → (r ≡ s) × (room' ≡ room'')
held-build = build-fixed

pub held-run : {t p g room room' room'' : List ℕ} {r s : Result RunCounts Refusal} → Ran t p g room room' r → Ran t p g room room'' s
    → (r ≡ s) × (room' ≡ room'')
held-run = run-fixed

pub held-jobs : {t p cells : List ℕ} {jobs jobs' jobs'' : List Job} {r s : Result ℕ Refusal} → JobsRun t p cells jobs jobs' (plan_told r)
    → JobsRun t p cells jobs jobs'' (plan_told s) → (r ≡ s) × (jobs' ≡ jobs'')
held-jobs = run-jobs-fixed

pub held-replies : {t p g room room' room'' : List ℕ} {r s : Result ReplyCounts Refusal} → Replied t p g room room' r → Replied t p g room room'' s
    → (r ≡ s) × (room' ≡ room'')
held-replies = replied-fixed

pub held-reply-jobs : {t p cells room room' room'' : List ℕ} {jobs jobs' jobs'' : List ReplyJob} {r s : Result ℕ Refusal}
    → ReplyJobsRun t p cells room room' jobs jobs' (plan_told r) → ReplyJobsRun t p cells room room'' jobs jobs'' (plan_told s)
    → (r ≡ s) × (jobs' ≡ jobs'') × (room' ≡ room'')
held-reply-jobs = reply-jobs-fixed

pub held-clauses : {t p text names room room' room'' : List ℕ} {r s : Result ProgramSize Refusal} → hands.Handed t p text names room room' r
    → hands.Handed t p text names room room'' s → (r ≡ s) × (room' ≡ room'')
held-clauses = clauses.handed-fixed

pub held-write-file : {t p room room' room'' : List ℕ} {r s : Result filed.Written Refusal} → FileWritten t p room room' (written_told r)
    → FileWritten t p room room'' (written_told s) → (r ≡ s) × (room' ≡ room'')
held-write-file = write-file-fixed

pub held-read-file : {f t p t' p' t'' p'' : List ℕ} {r s : Result Contents Refusal} → FileLoaded f t p t' p' (contents_told r)
    → FileLoaded f t p t'' p'' (contents_told s) → (r ≡ s) × (t' ≡ t'') × (p' ≡ p'')
held-read-file = read-file-fixed

pub held-salvage : {f t p b t' p' b' t'' p'' b'' : List ℕ} {r s : Result Report Refusal} → Salvaged f t p b t' p' b' (salvage_told r)
    → Salvaged f t p b t'' p'' b'' (salvage_told s) → (r ≡ s) × (t' ≡ t'') × (p' ≡ p'') × (b' ≡ b'')
held-salvage = salvage-fixed

pub held-listing : (bytes room : List ℕ) {room' room'' : List ℕ} {r s : ℕ} → Written (Lists bytes) room room' r
    → Written (Lists bytes) room room'' s
    → (r ≡ s) × (room' ≡ room'')
held-listing = written_one

pub held-textlines : (text room : List ℕ) {room' room'' : List ℕ} {r s : ℕ} → Written (Prints text) room room' r
    → Written (Prints text) room room'' s
    → (r ≡ s) × (room' ≡ room'')
held-textlines = printed-one

pub held-text : {t cells names cells' names' cells'' names'' : List ℕ} {r s : Result TextSize Refusal}
    → TextLoads t cells names cells' names' (text_told r) → TextLoads t cells names cells'' names'' (text_told s)
    → (r ≡ s) × (cells' ≡ cells'') × (names' ≡ names'')
held-text = read-text-fixed

pub held-exported-text : {t cells names cells' names' cells'' names'' : List ℕ} {r s : ℕ} → TextCoded t cells names cells' names' r
    → TextCoded t cells names cells'' names'' s → (r ≡ s) × (cells' ≡ cells'') × (names' ≡ names'')
held-exported-text = text-coded-fixed

pub held-exported-goal-text : {t names goal cells new cells' new' cells'' new'' : List ℕ} {r s : ℕ} → GoalTextCoded t names goal cells cells' new new' r
    → GoalTextCoded t names goal cells cells'' new new'' s → (r ≡ s) × (cells' ≡ cells'') × (new' ≡ new'')
held-exported-goal-text = goal-text-coded-fixed

pub held-exported-answer : {t names goal new cells room room' room'' : List ℕ} {r s : ℕ} → AnswerCoded t names goal new cells room room' r
    → AnswerCoded t names goal new cells room room'' s → (r ≡ s) × (room' ≡ room'')
held-exported-answer = answer-coded-fixed

pub held-exported-work-out : {figure : ℕ} {cells rec rec' rec'' : List ℕ} {r s : ℕ} → WorkCoded figure cells rec rec' r
    → WorkCoded figure cells rec rec'' s → (r ≡ s) × (rec' ≡ rec'')
held-exported-work-out = work-coded-fixed

pub held-exported-edit : {e : Edit} {figure : ℕ} {T : Table} {rec rec' rec'' : List ℕ} {r s : ℕ} → Holds rec figure T → EditCoded e rec rec' r
    → EditCoded e rec rec'' s → (r ≡ s) × (rec' ≡ rec'')
held-exported-edit = edit-coded-fixed

pub held-exported-build : {figure : ℕ} {T : Table} {rec room room' room'' : List ℕ} {r s : ℕ} → Holds rec figure T → BuildCoded rec room room' r
    → BuildCoded rec room room'' s → (r ≡ s) × (room' ≡ room'')
held-exported-build = build-coded-fixed

pub held-exported-build-for : {rec columns room room' room'' : List ℕ} {r s : ℕ} → BuildForCoded rec columns room room' r
    → BuildForCoded rec columns room room'' s → (r ≡ s) × (room' ≡ room'')
held-exported-build-for = build-for-coded-fixed

pub held-exported-build-liked : {rec goals list room liked room' room'' liked' liked'' : List ℕ} {r s : ℕ} → LikedCoded rec goals list room liked room' liked' r
    → LikedCoded rec goals list room liked room'' liked'' s → (r ≡ s) × (room' ≡ room'') × (liked' ≡ liked'')
held-exported-build-liked = liked-coded-fixed

pub held-exported-run : {t p g room room' room'' : List ℕ} {r s : ℕ} → RunCoded t p g room room' r → RunCoded t p g room room'' s
    → (r ≡ s) × (room' ≡ room'')
held-exported-run = run-coded-fixed

pub held-exported-jobs : {t p cells : List ℕ} {jobs jobs' jobs'' : List Job} {r s : ℕ} → JobsCoded t p cells jobs jobs' r
    → JobsCoded t p cells jobs jobs'' s → (r ≡ s) × (jobs' ≡ jobs'')
held-exported-jobs = jobs-coded-fixed

pub held-exported-replies : {t p g room room' room'' : List ℕ} {r s : ℕ} → RepliesCoded t p g room room' r → RepliesCoded t p g room room'' s
    → (r ≡ s) × (room' ≡ room'')
held-exported-replies = replies-coded-fixed

pub held-exported-reply-jobs : {t p cells room room' room'' : List ℕ} {jobs jobs' jobs'' : List ReplyJob} {r s : ℕ}
    → ReplyJobsCoded t p cells room room' jobs jobs' r → ReplyJobsCoded t p cells room room'' jobs jobs'' s
    → (r ≡ s) × (jobs' ≡ jobs'') × (room' ≡ room'')
held-exported-reply-jobs = reply-jobs-coded-fixed

pub held-exported-clauses : {t p text names room room' room'' : List ℕ} {r s : ℕ} → ClausesCoded t p text names room room' r
    → ClausesCoded t p text names room room'' s → (r ≡ s) × (room' ≡ room'')
held-exported-clauses = clauses-coded-fixed

pub held-exported-write-file : {t p room room' room'' : List ℕ} {r s : ℕ} → FileWriteCoded t p room room' r → FileWriteCoded t p room room'' s
    → (r ≡ s) × (room' ≡ room'')
held-exported-write-file = written-coded-fixed

pub held-exported-read-file : {f t p t' p' t'' p'' : List ℕ} {r s : ℕ} → FileReadCoded f t p t' p' r → FileReadCoded f t p t'' p'' s
    → (r ≡ s) × (t' ≡ t'') × (p' ≡ p'')
held-exported-read-file = loaded-coded-fixed

pub held-exported-salvage : {f t p b o t' p' b' o' t'' p'' b'' o'' : List ℕ} {r s : ℕ} → SalvageCoded f t p b o t' p' b' o' r
    → SalvageCoded f t p b o t'' p'' b'' o'' s → (r ≡ s) × (t' ≡ t'') × (p' ≡ p'') × (b' ≡ b'') × (o' ≡ o'')
held-exported-salvage = salvage-coded-fixed

-- The number that an exported entry answers tells its answer: two answers with one code are equal. That the header's masks and shifts
-- (`decoded`) read back what was answered is in every theorem of proofs/Demands, of each entry by crate dudowiej, proofs/Back.
pub held-code : {a b : Answer} → Small a → Small b → coded a ≡ coded b → a ≡ b
held-code = coded-one

-- "None is public unless its result is promised": docs/PROMISES.md lists every public function with its promise.

-- "These must be unprovable:"
-- "an entry that refuses everything": what 01 calls a table, a goal or a plan is accepted: `accepts` of Demand1Table and Demand1Goal,
-- demand-3-check, `builds` of Demand3Build, demand-2. "a run that names row 0 or no row always, or writes nothing", "a run that walks to
-- the first leaf and invents the rest": demand-2, for every row. "a tried count or cost made up": the count is `branches` of demand-2, the
-- cost that of `builds-from`. By the work of W-204 one row (v0) has a plan of cost 0 with one branch (least/proofs/WorkExamples), and `variables`
-- of demand-2-tried tries it. "A check that accepts only the builder's own plan breaks demand 3": demand-3-check accepts what any plan writes.

-- What an entry's number is read back as, by the header's masks and shifts: the entry's answer.
use Prim.Native.Nat.{ℕ}
use mathlib.Core.Path.{◌≡◌}
use mathlib.Core.List.{List}
use native.Mathlib.Omega.{arith}
use lib.ListN.{get_or}
use Rattle.refusal.specs.Coded.{coded, decoded}
use Rattle.refusal.proofs.CodedLaws.{read_back}
use Rattle.table.specs.Table.{Table, table_of, table_says, goal_with, goal_says}
use Rattle.plan.specs.Check.{plan_of, plan_under}
use Rattle.checker.specs.Checked.{plan_told, plan_says}
use Rattle.least.specs.declared.By.TheVariants.{Work}
use Rattle.record.specs.Edits.{Edit}
use Rattle.builder.specs.Build.{build_told}
use Rattle.goaltext.specs.Asked.{goal_text_told}
use Rattle.answerroom.specs.Room.{answer_told}
use Rattle.answer.specs.Run.{run_told}
use Rattle.dudowiej.specs.Coded.{row_says, WorkCoded, EditSays, BuildSays, RunCoded, TextCoded, JobsCoded, RepliesCoded, ClausesCoded}
use Rattle.dudowiej.specs.Coded.{GoalTextCoded, AnswerCoded}
use Rattle.dudowiej.specs.Coded.{ReplyJobsCoded, cut, FileWriteCoded, FileReadCoded, salvage_says, SalvageCoded, BuildForCoded, LikedCoded}
use Rattle.dudowiej.proofs.Small.{table-small, goal-with-small, row_small, plan-small, work-small, edit-small, build-small, liked-small}
use Rattle.dudowiej.proofs.Small.{run_small, text-small, jobs-small, replies-small}
use Rattle.dudowiej.proofs.Small.{goal-text-small, reply-jobs-small, written_small, loaded-small, salvaged-small, under-small}
use Rattle.answer.specs.declared.Job.{Job}
use Rattle.instance.specs.Replied.{replies_told}
use Rattle.instance.specs.declared.ReplyJob.{ReplyJob}
use Rattle.clauses.specs.Handed.{hand_told}

pub table-back : (t : List ℕ) {n : ℕ} → n ≡ coded (table_says (table_of t)) → decoded n ≡ table_says (table_of t)
table-back t = read_back (table-small t)

pub goal-back : (t g : List ℕ) {n : ℕ} → n ≡ coded (goal_says g (goal_with t g)) → decoded n ≡ goal_says g (goal_with t g)
goal-back t g = read_back (goal-with-small t g)

pub row_back : (t : List ℕ) (r : ℕ) {n : ℕ} → n ≡ coded (row_says (table_of t) r) → decoded n ≡ row_says (table_of t) r
row_back t r = let s = row_small t r in read_back (omega arith, omega arith)

pub plan-back : (t p : List ℕ) {n : ℕ} → n ≡ coded (plan_says (plan_of t p)) → decoded n ≡ plan_says (plan_of t p)
plan-back t p = read_back (plan-small t p)

pub under_back : (t columns p : List ℕ) {n : ℕ} → n ≡ coded (plan_says (plan_under t columns p)) → decoded n ≡ plan_says (plan_under t columns p)
under_back t columns p = read_back (under-small t columns p)

pub work-back : {figure : ℕ} {cells rec rec' : List ℕ} {n : ℕ} (x : WorkCoded figure cells rec rec' n) → decoded n ≡ x.told
work-back x = read_back (work-small x.worked) x.code

pub edit-back : {e : Edit} {figure : ℕ} {T : Table} {rec rec' : List ℕ} {n : ℕ} (x : EditSays e figure T rec rec' n) → decoded n ≡ x.told
edit-back x = read_back (edit-small x.edited) x.code

pub build-back : {figure : ℕ} {T : Table} {room room' : List ℕ} {n : ℕ} (x : BuildSays figure T room room' n) → decoded n ≡ build_told x.answer
build-back {figure} x = read_back (build-small (Work figure) x.built) x.code

pub build-for-back : {rec columns room room' : List ℕ} {n : ℕ} (x : BuildForCoded rec columns room room' n) → decoded n ≡ build_told x.answer
build-for-back {rec} x = read_back (build-small (Work (get_or rec 1 0)) x.built) x.code

pub liked-back : {rec goals list room liked room' liked' : List ℕ} {n : ℕ} (x : LikedCoded rec goals list room liked room' liked' n)
    → decoded n ≡ build_told x.answer
liked-back {rec} x = read_back (liked-small (Work (get_or rec 1 0)) x.built) x.code

pub run-back : {t p g room room' : List ℕ} {n : ℕ} (x : RunCoded t p g room room' n) → decoded n ≡ run_told x.answer
run-back x = read_back (run_small x.ran) x.code

pub text-back : {t cells names cells' names' : List ℕ} {n : ℕ} (x : TextCoded t cells names cells' names' n) → decoded n ≡ x.answer
text-back x = read_back (text-small x.loaded) x.code

pub goal-text-back : {t names goal cells cells' new new' : List ℕ} {n : ℕ} (x : GoalTextCoded t names goal cells cells' new new' n)
    → decoded n ≡ goal_text_told x.answer
goal-text-back x = read_back (goal-text-small x.into) x.code

pub answer_back : {t names goal new cells room room' : List ℕ} {n : ℕ} (x : AnswerCoded t names goal new cells room room' n)
    → decoded n ≡ answer_told x.answer
answer_back x = read_back x.small x.code

pub jobs-back : {t p cells : List ℕ} {jobs jobs' : List Job} {n : ℕ} (x : JobsCoded t p cells jobs jobs' n) → decoded n ≡ x.told
jobs-back x = read_back (jobs-small x.ran) x.code

pub reply-jobs-back : {t p cells room room' : List ℕ} {jobs jobs' : List ReplyJob} {n : ℕ} (x : ReplyJobsCoded t p cells room room' jobs jobs' n)
    → decoded n ≡ plan_told x.answer
reply-jobs-back x = read_back (reply-jobs-small x.ran) x.code

pub replies-back : {t p g room room' : List ℕ} {n : ℕ} (x : RepliesCoded t p g room room' n) → decoded n ≡ replies_told x.answer
replies-back x = read_back (replies-small x.replied) x.code

pub clauses-back : {t p text names room room' : List ℕ} {n : ℕ} (x : ClausesCoded t p text names room room' n) → decoded n ≡ hand_told x.answer
clauses-back x = read_back x.small x.code

pub written_back : {t p room room' : List ℕ} {n : ℕ} (x : FileWriteCoded t p room room' n) → decoded n ≡ x.told
written_back x = read_back (written_small x.wrote) x.code

pub loaded-back : {f t p t' p' : List ℕ} {n : ℕ} (x : FileReadCoded f t p t' p' n) → decoded n ≡ cut x.told
loaded-back x = read_back (loaded-small x.loaded) x.code

pub salvaged-back : {f t p b r t' p' b' r' : List ℕ} {n : ℕ} (x : SalvageCoded f t p b r t' p' b' r' n) → decoded n ≡ cut (salvage_says x.told)
salvaged-back x = read_back (salvaged-small x.had) x.code

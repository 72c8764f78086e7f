-- Two results that a promise allows are equal, for the entries with a lent room. The other entries promise an equation with what the
-- arguments give, and for them this is `given-fixed` of crate cell.
use Rattle.std.specs.Prelude.{Result}
use Rattle.instance.specs.declared.ReplyCounts.{ReplyCounts}
use Rattle.builder.specs.declared.BuiltPlan.{BuiltPlan}
use Rattle.answer.specs.declared.RunCounts.{RunCounts}
use Rattle.refusal.specs.declared.Refusal.{Refusal}
use Prim.Native.Nat.{ℕ}
use mathlib.Core.Path.{◌≡◌, sym, ap, ◌∙◌}
use mathlib.Core.List.{List}
use Rattle.table.specs.Table.{Table}
use Rattle.record.specs.Record.{Holds}
use Rattle.record.specs.Edits.{Edit}
use Rattle.record.proofs.Fixed.{worked-one, edited-one}
use Rattle.checker.specs.Checked.{plan_told}
use Rattle.builder.specs.Build.{build_told}
use Rattle.builder.proofs.Fixed.{build-fixed}
use Rattle.liked.proofs.Fixed.{liked-fixed}
use Rattle.answer.specs.Run.{run_told}
use Rattle.answer.proofs.Fixed.{run-fixed}
use Rattle.loading.proofs.Fixed.{text-fixed}
use Rattle.goaltext.specs.Asked.{goal_text_told}
use Rattle.goaltext.specs.declared.GoalTextSize.{GoalTextSize}
use Rattle.goalroom.proofs.Fixed.{goal-into-fixed}
use Rattle.answerroom.specs.Room.{answer_told}
use Rattle.answerroom.specs.declared.AnswerTextSize.{AnswerTextSize}
use Rattle.answerroom.proofs.Fixed.{answer-into-fixed}
use Rattle.refusal.specs.Refusal.{Answer}
use Rattle.refusal.specs.Coded.{coded}
use Rattle.dudowiej.specs.Coded.{WorkCoded, EditCoded, BuildCoded, RunCoded, TextCoded, JobsCoded, RepliesCoded, ClausesCoded}
use Rattle.dudowiej.specs.Coded.{GoalTextCoded, AnswerCoded}
use Rattle.dudowiej.specs.Coded.{ReplyJobsCoded, cut, FileWriteCoded, FileReadCoded, salvage_says, report_after, SalvageCoded, BuildForCoded, LikedCoded}
use Rattle.answer.specs.declared.Job.{Job}
use Rattle.answer.proofs.JobsLaws.{jobs-fixed}
use Rattle.instance.specs.Replied.{replies_told}
use Rattle.instance.proofs.Fixed.{replied-fixed}
use Rattle.instance.specs.declared.ReplyJob.{ReplyJob}
use Rattle.replyjobs.proofs.Fixed.{reply-jobs-fixed}
use Rattle.clauses.specs.Handed.{hand_told}
use Rattle.clauses.specs.declared.ProgramSize.{ProgramSize}
use Rattle.clauses.proofs.Fixed.{handed-fixed}
use Rattle.filing.proofs.Fixed.{written-fixed, loaded-fixed}
use Rattle.salvaging.specs.Salvage.{Outcome}
use Rattle.salvaging.proofs.Fixed.{salvaged-fixed}

pub work-coded-fixed : {figure : ℕ} {cells rec rec' rec'' : List ℕ} {m n : ℕ} → WorkCoded figure cells rec rec' m → WorkCoded figure cells rec rec'' n
    → (m ≡ n) × (rec' ≡ rec'')
work-coded-fixed a b = let f = worked-one a.worked b.worked in (a.code ∙ ap coded f.1 ∙ sym b.code, f.0)

-- an edit, and a plan built, of a record that holds a table
pub edit-coded-fixed : {e : Edit} {figure : ℕ} {T : Table} {rec rec' rec'' : List ℕ} {m n : ℕ} → Holds rec figure T → EditCoded e rec rec' m
    → EditCoded e rec rec'' n → (m ≡ n) × (rec' ≡ rec'')
edit-coded-fixed {figure = figure} {T} x a b =
    let f = edited-one (a figure T x).edited (b figure T x).edited in
    ((a figure T x).code ∙ ap coded f.1 ∙ sym (b figure T x).code, f.0)

pub build-coded-fixed : {figure : ℕ} {T : Table} {rec room room' room'' : List ℕ} {m n : ℕ} → Holds rec figure T → BuildCoded rec room room' m
    → BuildCoded rec room room'' n → (m ≡ n) × (room' ≡ room'')
build-coded-fixed {figure} {T} x a b =
    let f = build-fixed (a figure T x).built (b figure T x).built in
    ((a figure T x).code ∙ ap (λ (r : Result BuiltPlan Refusal). coded (build_told r)) f.0 ∙ sym (b figure T x).code, f.1)

pub build-for-coded-fixed : {rec columns room room' room'' : List ℕ} {m n : ℕ} → BuildForCoded rec columns room room' m
    → BuildForCoded rec columns room room'' n → (m ≡ n) × (room' ≡ room'')
build-for-coded-fixed a b =
    let f = build-fixed a.built b.built in
    (a.code ∙ ap (λ (r : Result BuiltPlan Refusal). coded (build_told r)) f.0 ∙ sym b.code, f.1)

pub liked-coded-fixed : {rec goals list room liked room' room'' liked' liked'' : List ℕ} {m n : ℕ} → LikedCoded rec goals list room liked room' liked' m
    → LikedCoded rec goals list room liked room'' liked'' n → (m ≡ n) × (room' ≡ room'') × (liked' ≡ liked'')
liked-coded-fixed a b =
    let f = liked-fixed a.built b.built in
    (a.code ∙ ap (λ (r : Result BuiltPlan Refusal). coded (build_told r)) f.0 ∙ sym b.code, f.1, f.2)

pub run-coded-fixed : {t p g room room' room'' : List ℕ} {m n : ℕ} → RunCoded t p g room room' m → RunCoded t p g room room'' n
    → (m ≡ n) × (room' ≡ room'')
run-coded-fixed a b =
    let f = run-fixed a.ran b.ran in
    (a.code ∙ ap (λ (x : Result RunCounts Refusal). coded (run_told x)) f.0 ∙ sym b.code, f.1)

pub text-coded-fixed : {t cells names cells' names' cells'' names'' : List ℕ} {m n : ℕ} → TextCoded t cells names cells' names' m
    → TextCoded t cells names cells'' names'' n → (m ≡ n) × (cells' ≡ cells'') × (names' ≡ names'')
text-coded-fixed a b =
    let f = text-fixed a.loaded b.loaded in
    (a.code ∙ ap coded f.0 ∙ sym b.code, f.1, f.2)

pub goal-text-coded-fixed : {t names goal cells new cells' new' cells'' new'' : List ℕ} {m n : ℕ} → GoalTextCoded t names goal cells cells' new new' m
    → GoalTextCoded t names goal cells cells'' new new'' n → (m ≡ n) × (cells' ≡ cells'') × (new' ≡ new'')
goal-text-coded-fixed a b =
    let f = goal-into-fixed a.into b.into in
    (a.code ∙ ap (λ (x : Result GoalTextSize Refusal). coded (goal_text_told x)) f.0 ∙ sym b.code, f.1, f.2)

pub answer-coded-fixed : {t names goal new cells room room' room'' : List ℕ} {m n : ℕ} → AnswerCoded t names goal new cells room room' m
    → AnswerCoded t names goal new cells room room'' n → (m ≡ n) × (room' ≡ room'')
answer-coded-fixed a b =
    let f = answer-into-fixed a.into b.into in
    (a.code ∙ ap (λ (x : Result AnswerTextSize Refusal). coded (answer_told x)) f.0 ∙ sym b.code, f.1)

pub jobs-coded-fixed : {t p cells : List ℕ} {jobs jobs' jobs'' : List Job} {m n : ℕ} → JobsCoded t p cells jobs jobs' m → JobsCoded t p cells jobs jobs'' n
    → (m ≡ n) × (jobs' ≡ jobs'')
jobs-coded-fixed a b = let f = jobs-fixed a.ran b.ran in (a.code ∙ ap coded f.0 ∙ sym b.code, f.1)

pub replies-coded-fixed : {t p g room room' room'' : List ℕ} {m n : ℕ} → RepliesCoded t p g room room' m → RepliesCoded t p g room room'' n
    → (m ≡ n) × (room' ≡ room'')
replies-coded-fixed a b =
    let f = replied-fixed a.replied b.replied in
    (a.code ∙ ap (λ (x : Result ReplyCounts Refusal). coded (replies_told x)) f.0 ∙ sym b.code, f.1)

pub reply-jobs-coded-fixed : {t p cells room room' room'' : List ℕ} {jobs jobs' jobs'' : List ReplyJob} {m n : ℕ}
    → ReplyJobsCoded t p cells room room' jobs jobs' m → ReplyJobsCoded t p cells room room'' jobs jobs'' n
    → (m ≡ n) × (jobs' ≡ jobs'') × (room' ≡ room'')
reply-jobs-coded-fixed a b =
    let f = reply-jobs-fixed {r = a.answer} {s = b.answer} a.ran b.ran in
    (a.code ∙ ap (λ (r : Result ℕ Refusal). coded (plan_told r)) f.0 ∙ sym b.code, f.1, f.2)

pub clauses-coded-fixed : {t p text names room room' room'' : List ℕ} {m n : ℕ} → ClausesCoded t p text names room room' m
    → ClausesCoded t p text names room room'' n → (m ≡ n) × (room' ≡ room'')
clauses-coded-fixed a b =
    let f = handed-fixed a.handed b.handed in
    (a.code ∙ ap (λ (x : Result ProgramSize Refusal). coded (hand_told x)) f.0 ∙ sym b.code, f.1)

pub written-coded-fixed : {t p room room' room'' : List ℕ} {m n : ℕ} → FileWriteCoded t p room room' m → FileWriteCoded t p room room'' n
    → (m ≡ n) × (room' ≡ room'')
written-coded-fixed a b = let f = written-fixed a.wrote b.wrote in (a.code ∙ ap coded f.0 ∙ sym b.code, f.1)

pub loaded-coded-fixed : {f t p t' p' t'' p'' : List ℕ} {m n : ℕ} → FileReadCoded f t p t' p' m → FileReadCoded f t p t'' p'' n
    → (m ≡ n) × (t' ≡ t'') × (p' ≡ p'')
loaded-coded-fixed a b =
    let f = loaded-fixed a.loaded b.loaded in
    (a.code ∙ ap (λ (x : Answer). coded (cut x)) f.0 ∙ sym b.code, f.1, f.2)

pub salvage-coded-fixed : {f t p b r t' p' b' r' t'' p'' b'' r'' : List ℕ} {m n : ℕ} → SalvageCoded f t p b r t' p' b' r' m
    → SalvageCoded f t p b r t'' p'' b'' r'' n → (m ≡ n) × (t' ≡ t'') × (p' ≡ p'') × (b' ≡ b'') × (r' ≡ r'')
salvage-coded-fixed {r = r} x y =
    let f = salvaged-fixed x.had y.had in (
      x.code ∙ ap (λ (o : Outcome). coded (cut (salvage_says o))) f.0 ∙ sym y.code,
      f.1,
      f.2,
      f.3,
      x.reports ∙ ap (λ (o : Outcome). report_after o r) f.0 ∙ sym y.reports,
    )

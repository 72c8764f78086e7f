-- What an answer's number is of: what each crate says of its answers.
use Rattle.std.specs.Prelude.{ℕ, ◌≡◌, refl, Result, Ok, Err}
use mathlib.Core.Path.{ap, ◌∙◌}
use Rattle.refusal.specs.declared.Refusal.{Refusal}
use Rattle.refusal.specs.Refusal.{Answer, answered}
use Rattle.refusal.specs.Coded.{coded, Small}
use Rattle.refusal.proofs.CodedLaws.{small_by}
use Rattle.builder.specs.declared.BuiltPlan.{BuiltPlan}
use Rattle.answer.specs.declared.RunCounts.{RunCounts}
use Rattle.prolog.specs.declared.TextSize.{TextSize}
use Rattle.goaltext.specs.declared.GoalTextSize.{GoalTextSize}
use Rattle.answerroom.specs.declared.AnswerTextSize.{AnswerTextSize}
use Rattle.instance.specs.declared.ReplyCounts.{ReplyCounts}
use Rattle.clauses.specs.declared.ProgramSize.{ProgramSize}
use Rattle.filing.specs.declared.Written.{Written}
use Rattle.filing.specs.declared.Contents.{Contents}
use Rattle.salvaging.specs.declared.Report.{Report}
use Rattle.checker.specs.Checked.{plan_told}
use Rattle.builder.specs.Build.{build_told}
use Rattle.answer.specs.Run.{run_told}
use Rattle.prolog.specs.Entry.{text_told}
use Rattle.goaltext.specs.Asked.{goal_text_told}
use Rattle.answerroom.specs.Room.{answer_told}
use Rattle.instance.specs.Replied.{replies_told}
use Rattle.clauses.specs.Handed.{hand_told}
use Rattle.filing.specs.Answers.{written_told}
use Rattle.filing.specs.Answers.{contents_told}
use Rattle.salvaging.specs.Answers.{salvage_told}
use Rattle.table.specs.declared.TableRead.{TableRead}
use Rattle.table.specs.declared.TableSize.{TableSize}
use Rattle.table.specs.declared.GoalSize.{GoalSize}
use Rattle.table.specs.Table.{read_told, table_told, goal_told}
use Rattle.dudowiej.specs.Coded.{cut, told_by, salvage_says}
use Rattle.dudowiej.proofs.CutLaws.{cut_small}

-- the code of an answer that fits its bits, and of one whose place may be cut
pub coded_by : {code : ℕ} {t u : Answer} → t ≡ u → Small u → (Small (cut t) → code ≡ coded (cut t)) → code ≡ coded u
coded_by {t = t} {u} e s h = let k : cut t ≡ u = ap cut e ∙ cut_small u s in h (small_by k s) ∙ ap coded k

pub cut_by : {code : ℕ} {t u : Answer} → t ≡ u → Small (cut u) → (Small (cut t) → code ≡ coded (cut t)) → code ≡ coded (cut u)
cut_by {t = t} {u} e s h = let k : cut t ≡ cut u = ap cut e in h (small_by k s) ∙ ap coded k

pub read-by : (a : Result TableRead Refusal) → told_by (λ (n : TableRead). answered n.width n.rows) a ≡ read_told a
read-by (Ok n) = refl
read-by (Err f) = refl

pub table-by : (a : Result TableSize Refusal) → told_by (λ (n : TableSize). answered n.width n.rows) a ≡ table_told a
table-by (Ok n) = refl
table-by (Err f) = refl

pub goal-by : (a : Result GoalSize Refusal) → told_by (λ (n : GoalSize). answered n.cells n.vars) a ≡ goal_told a
goal-by (Ok n) = refl
goal-by (Err f) = refl

pub plan-by : (a : Result ℕ Refusal) → told_by (λ (n : ℕ). answered n 0) a ≡ plan_told a
plan-by (Ok n) = refl
plan-by (Err f) = refl

pub build-by : (a : Result BuiltPlan Refusal) → told_by (λ (n : BuiltPlan). answered n.cells n.cost) a ≡ build_told a
build-by (Ok n) = refl
build-by (Err f) = refl

pub run-by : (a : Result RunCounts Refusal) → told_by (λ (n : RunCounts). answered n.hits n.tried) a ≡ run_told a
run-by (Ok n) = refl
run-by (Err f) = refl

pub text-by : (a : Result TextSize Refusal) → told_by (λ (n : TextSize). answered n.cells n.names) a ≡ text_told a
text-by (Ok n) = refl
text-by (Err f) = refl

pub goal-text-by : (a : Result GoalTextSize Refusal) → told_by (λ (n : GoalTextSize). answered n.cells n.names) a ≡ goal_text_told a
goal-text-by (Ok n) = refl
goal-text-by (Err f) = refl

pub answer-text-by : (a : Result AnswerTextSize Refusal) → told_by (λ (n : AnswerTextSize). answered n.cells n.bytes) a ≡ answer_told a
answer-text-by (Ok n) = refl
answer-text-by (Err f) = refl

pub replies-by : (a : Result ReplyCounts Refusal) → told_by (λ (n : ReplyCounts). answered n.replies n.cells) a ≡ replies_told a
replies-by (Ok n) = refl
replies-by (Err f) = refl

pub hand-by : (a : Result ProgramSize Refusal) → told_by (λ (n : ProgramSize). answered n.clauses n.bytes) a ≡ hand_told a
hand-by (Ok n) = refl
hand-by (Err f) = refl

pub written-by : (a : Result Written Refusal) → told_by (λ (n : Written). answered n.bytes n.blocks) a ≡ written_told a
written-by (Ok n) = refl
written-by (Err f) = refl

pub contents-by : (a : Result Contents Refusal) → told_by (λ (n : Contents). answered n.table n.plan) a ≡ contents_told a
contents-by (Ok n) = refl
contents-by (Err f) = refl

pub salvage-by : (a : Result Report Refusal) → told_by (λ (n : Report). answered n.kept n.dropped) a ≡ salvage_says (salvage_told a)
salvage-by (Ok n) = refl
salvage-by (Err f) = refl

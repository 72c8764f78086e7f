-- Two results that the promise of `run_jobs` allows are equal. (For `run_plan` this is `run-fixed` of crate answer.)
use Prim.Native.Nat.{ℕ}
use Rattle.std.proofs.Common.{Result}
use Rattle.refusal.specs.declared.Refusal.{Refusal}
use mathlib.Core.Path.{◌≡◌, sym, ◌∙◌, ap}
use mathlib.Core.List.{List}
use Rattle.refusal.specs.Refusal.{Answer}
use Rattle.plan.specs.Check.{plan_of}
use Rattle.checker.specs.Checked.{plan_told, plan_says}
use Rattle.checker.proofs.Fixed.{plan-fixed}
use Rattle.answer.specs.declared.Job.{Job}
use Rattle.answer.specs.Jobs.{JobsRun, refusal, asked}
use Rattle.answer.proofs.JobsLaws.{jobs-fixed}

-- it answers what the check does
pub jobs-told : {t p cells : List ℕ} {jobs jobs' : List Job} {a : Answer} → JobsRun t p cells jobs jobs' a → a ≡ plan_says (plan_of t p)
jobs-told (refusal f e d c) = d ∙ sym (ap plan_says e)
jobs-told (asked n e d c) = d ∙ sym (ap plan_says e)

pub run-jobs-fixed : {t p cells : List ℕ} {jobs jobs' jobs'' : List Job} {r s : Result ℕ Refusal} → JobsRun t p cells jobs jobs' (plan_told r)
    → JobsRun t p cells jobs jobs'' (plan_told s) → (r ≡ s) × (jobs' ≡ jobs'')
run-jobs-fixed {t} {p} x y = (plan-fixed t p (jobs-told x) (jobs-told y), (jobs-fixed x y).1)

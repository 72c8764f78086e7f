-- The list, by the check's answer.
use Prim.Native.Nat.{ℕ}
use Rattle.std.proofs.Common.{Result, Ok, Err}
use Rattle.refusal.specs.declared.Refusal.{Refusal}
use mathlib.Core.Path.{◌≡◌, refl}
use mathlib.Core.Bool.{true, false}
use mathlib.Core.List.{List}
use native.Mathlib.Omega.{arith}
use Rattle.refusal.specs.Read.{Read, read, refuse}
use Rattle.plan.specs.Check.{plan_of}
use Rattle.checker.specs.Checked.{plan_told, plan_says}
use Rattle.plannotes.specs.Noted.{NotedInto}
use Rattle.plannotes.specs.declared.Noted.{Noted}
use Rattle.plannotes.proofs.HandedLaws.{handed-says}
use Rattle.std.specs.Prelude.{is_ok}
use Rattle.instance.specs.ReplyJobs.{RepliesEach, ReplyJobsRun, refusal, asked}
use Rattle.instance.specs.declared.ReplyJob.{ReplyJob}

module _ {t p before numbers : List ℕ} {m : Noted} (cells : List ℕ) (h : NotedInto t p before numbers m) {room : List ℕ} {jobs : List ReplyJob} where
  pub jobs-replied : {room' : List ℕ} {jobs' : List ReplyJob} → is_ok m.answer ≡ true → RepliesEach t p cells 0 room room' jobs jobs'
      → ReplyJobsRun t p cells room room' jobs jobs' (plan_told m.answer)
  jobs-replied {room'} {jobs'} is each = go (plan_of t p) refl m.answer (handed-says h) is
    where
      go : (x : Read ℕ) → plan_of t p ≡ x → (a : Result ℕ Refusal) → plan_told a ≡ plan_says x → is_ok a ≡ true
          → ReplyJobsRun t p cells room room' jobs jobs' (plan_told a)
      go (read n) e a s y = asked n e s each
      go (refuse f) e (Ok n) s y = absurd (let z : ◌≡◌ {A = ℕ} 0 1 = cc in let w : ⊥ = omega arith in w)
      go (refuse f) e (Err g) s y = absurd (let z : ◌≡◌ {A = ℕ} 0 1 = cc in let w : ⊥ = omega arith in w)

  pub jobs-left : is_ok m.answer ≡ false → ReplyJobsRun t p cells room room jobs jobs (plan_told m.answer)
  jobs-left is = go (plan_of t p) refl m.answer (handed-says h) is
    where
      go : (x : Read ℕ) → plan_of t p ≡ x → (a : Result ℕ Refusal) → plan_told a ≡ plan_says x → is_ok a ≡ false
          → ReplyJobsRun t p cells room room jobs jobs (plan_told a)
      go (refuse f) e a s y = refusal f e s refl refl
      go (read n) e (Ok k) s y = absurd (let z : ◌≡◌ {A = ℕ} 0 1 = cc in let w : ⊥ = omega arith in w)
      go (read n) e (Err g) s y = absurd (let z : ◌≡◌ {A = ℕ} 0 1 = cc in let w : ⊥ = omega arith in w)

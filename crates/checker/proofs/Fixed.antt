-- Two results that a promise allows are equal, for every public function of the crate.
use mathlib.Core.Path.{◌≡◌, sym, ap, ◌∙◌}
use Rattle.std.proofs.Common.{Result, Ok, Err}
use Rattle.refusal.specs.declared.Refusal.{Refusal}
use Prim.Native.Nat.{ℕ}
use native.Mathlib.Omega.{arith}
use mathlib.Core.List.{List}
use Rattle.refusal.specs.Refusal.{told}
use Rattle.refusal.proofs.RefusalLaws.{told-one}
use Rattle.plan.specs.Check.{plan_of, plan_under}
use Rattle.checker.specs.Checked.{plan_says, plan_told}

-- check_plan and check_for: the promise gives 01's number and values, which tell the cases apart
told-apart : (a b : Result ℕ Refusal) → plan_told a ≡ plan_told b → a ≡ b
told-apart (Ok n) (Ok m) e = cc
told-apart (Ok n) (Err g) e = absurd (let z : ◌≡◌ {A = ℕ} 0 1 = cc in omega arith)
told-apart (Err f) (Ok m) e = absurd (let z : ◌≡◌ {A = ℕ} 0 1 = cc in omega arith)
told-apart (Err f) (Err g) e = let q : told f ≡ told g = cc in ap Err (told-one q)

pub plan-fixed : (t p : List ℕ) {r s : Result ℕ Refusal} → plan_told r ≡ plan_says (plan_of t p) → plan_told s ≡ plan_says (plan_of t p) → r ≡ s
plan-fixed t p {r} {s} a b = told-apart r s (a ∙ sym b)

pub under-fixed : (t columns p : List ℕ) {r s : Result ℕ Refusal} → plan_told r ≡ plan_says (plan_under t columns p)
    → plan_told s ≡ plan_says (plan_under t columns p) → r ≡ s
under-fixed t columns p {r} {s} a b = told-apart r s (a ∙ sym b)

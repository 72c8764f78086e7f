-- What the check answered, as a reading: for those who call it and go on.
use Prim.Native.Nat.{ℕ}
use Rattle.std.proofs.Common.{Result, Ok, Err}
use mathlib.Core.Path.{◌≡◌, sym, ◌∙◌, ap}
use native.Mathlib.Omega.{arith}
use Rattle.refusal.specs.Refusal.{told, answered, turned}
use Rattle.refusal.specs.Read.{Read, read, refuse}
use Rattle.refusal.specs.declared.Refusal.{Refusal}
use Rattle.checker.specs.Checked.{plan_says, plan_told}

pub said_read : (r : Read ℕ) {a : Result ℕ Refusal} {n : ℕ} → plan_told a ≡ plan_says r → a ≡ Ok n → r ≡ read n
said_read (read m) {n = n} e q = let f : answered m 0 ≡ answered n 0 = sym e ∙ ap plan_told q in cc
said_read (refuse f) {n = n} e q =
    let g : turned f ≡ answered n 0 = sym e ∙ ap plan_told q in absurd (let z : ◌≡◌ {A = ℕ} 0 1 = cc in omega arith)

pub said-refused : (r : Read ℕ) {a : Result ℕ Refusal} {f : Refusal} → plan_told a ≡ plan_says r → a ≡ Err f → r ≡ refuse (told f)
said-refused (read m) {f = f} e q =
    let g : answered m 0 ≡ turned (told f) = sym e ∙ ap plan_told q in absurd (let z : ◌≡◌ {A = ℕ} 0 1 = cc in omega arith)
said-refused (refuse x) {f = f} e q = let g : turned x ≡ turned (told f) = sym e ∙ ap plan_told q in cc

-- What was written fits the room that was lent: a plan that was built, and the hits of a run.
use Rattle.std.specs.Prelude.{Result, Ok}
use Rattle.builder.specs.declared.BuiltPlan.{BuiltPlan}
use Rattle.answer.specs.declared.RunCounts.{RunCounts}
use Rattle.refusal.specs.declared.Refusal.{Refusal}
use Prim.Native.Nat.{ℕ, ◌≤◌}
use mathlib.Core.Path.{◌≡◌, ap, sym, ◌∙◌}
use mathlib.Core.List.{List, ◌++◌}
use native.Mathlib.Omega.{arith}
use lib.ListN.{length, drop, length-append}
use Rattle.refusal.specs.Refusal.{answered}
use Rattle.plan.specs.Plans.{write}
use Rattle.least.specs.Measures.{cost_by}
use Rattle.least.specs.declared.By.{By}
use Rattle.builder.specs.Build.{BuiltInto, table-refused, room-refused, built, build_told}
use Rattle.answer.specs.Run.{Ran, refusal, ran, run_told}

at_front : (front room : List ℕ) {room' : List ℕ} → room' ≡ front ++ drop (length front) room → length front ≤ length room'
at_front front room e = omega (arith, ap length e, length-append front (drop (length front) room))

pub built-fits : (b : By) {columns t room room' : List ℕ} {r : Result BuiltPlan Refusal} {n cost : ℕ} → BuiltInto b columns t room room' r
    → r ≡ Ok (record { cells = n; cost = cost }) → n ≤ length room'
built-fits b (table-refused f x a s) e = let z : ◌≡◌ {A = ℕ} 0 1 = cc in absurd (omega arith)
built-fits b (room-refused T tree x y l a s) e = let z : ◌≡◌ {A = ℕ} 0 1 = cc in absurd (omega arith)
built-fits b {room = room} {n = n} {cost} (built T tree x y m l a s) e =
    let d : answered n cost ≡ answered (length (write tree)) (cost_by b tree) = ap build_told (sym e) ∙ a in
    let q : n ≡ length (write tree) = cc in
    rw q (at_front (write tree) room s)

pub ran-fits : {t p g room room' : List ℕ} {r : Result RunCounts Refusal} {n tried : ℕ} → Ran t p g room room' r → r ≡ Ok (record { hits = n; tried = tried }) → n ≤ length room'
ran-fits (refusal f x a s) e = let z : ◌≡◌ {A = ℕ} 0 1 = cc in absurd (omega arith)
ran-fits {room = room} {n = n} {tried} (ran T tree found m x y z u a s) e =
    let d : answered n tried ≡ answered (length found) m = ap run_told (sym e) ∙ a in
    let q : n ≡ length found = cc in
    rw q (at_front found room s)

-- Demand 3, first sentence, of the entry: "The check accepts it exactly when, written as document 01 sets out, each step names one place not yet looked
-- at and splits its rows there into the longest runs of neighbours that agree, down to rows with no place left."
use mathlib.Core.Path.{◌≡◌, sym, ap, ◌∙◌}
use Rattle.std.proofs.Common.{Result, Ok, Err}
use Rattle.refusal.specs.declared.Refusal.{Refusal}
use mathlib.Core.Logic.{◌↔◌}
use mathlib.Core.List.{List}
use Prim.Native.Nat.{ℕ}
use native.Mathlib.Omega.{arith}
use Rattle.refusal.specs.Refusal.{answered}
use Rattle.refusal.specs.Read.{Read, read, refuse}
use Rattle.table.specs.Table.{Table, table_of, IsTable}
use Rattle.table.proofs.ReadLaws.{first}
use Rattle.table.proofs.Accepted.{is-table, table-accepted}
use Rattle.plan.specs.Plans.{Plan, write, branches}
use Rattle.plan.specs.Check.{plan_for, plan_of}
use Rattle.checker.specs.Checked.{plan_says, plan_told}
use Rattle.plan.proofs.CheckLaws.{accepted-one}

-- a table of 01, and a plan for its rows that writes these cells and has b branches; no other plan writes them
pub record PlanFor (t p : List ℕ) (b : ℕ) : Type 0 where
  pub table : Table
  pub is : IsTable t table.width table.rows
  pub tree : Plan table.width table.rows
  pub cells : write tree ≡ p
  pub count : branches tree ≡ b
  pub only : (other : Plan table.width table.rows) → write other ≡ p → other ≡ tree

says-accepted : (r : Read ℕ) (b : ℕ) → plan_says r ≡ answered b 0 → r ≡ read b
says-accepted (read n) b e = cc
says-accepted (refuse f) b e = absurd (let z : ◌≡◌ {A = ℕ} 0 1 = cc in omega arith)

told-accepted : (r : Result ℕ Refusal) (b : ℕ) → plan_told r ≡ answered b 0 → r ≡ Ok b
told-accepted (Ok n) b e = cc
told-accepted (Err f) b e = absurd (let z : ◌≡◌ {A = ℕ} 0 1 = cc in omega arith)

-- check_plan answers that a plan is accepted with b branches exactly where it is one
pub check-accepts : (t p : List ℕ) (b : ℕ) {r : Result ℕ Refusal} → plan_told r ≡ plan_says (plan_of t p) → (r ≡ Ok b) ↔ PlanFor t p b
check-accepts t p b {r} promise = (sound, complete)
  where
    sound : r ≡ Ok b → PlanFor t p b
    sound e =
        let f = first (table_of t) (λ (T : Table). plan_for T p) (says-accepted (plan_of t p) b (sym promise ∙ ap plan_told e)) in
        let i = is-table t f.1 in
        let a = (accepted-one f.0 i p b).0 f.2 in
        record { table = f.0; is = i; tree = a.0; cells = a.1; count = a.2; only = a.3 }

    complete : PlanFor t p b → r ≡ Ok b
    complete w =
        let T : Table = w.table in
        let g = (table-accepted t T.width T.rows).1 w.is in
        let a = (accepted-one T w.is p b).1 (w.tree, w.cells, w.count, w.only) in
        told-accepted r b (promise ∙ rw (g, a))

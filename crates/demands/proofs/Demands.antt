-- The three demands (document 00), each proved of what the entries for C and Rust promise. The statements, with the demands' own words, are in
-- specs/Demands; src/lib.rt has for each entry a function that calls it and ensures these statements, by the theorem here. What else 01
-- asks of the promises is in proofs/Held.
--
-- An entry answers one number n, and `decoded n` is the answer as 01 counts it. The entry's promise is the relation that its contract states
-- for every input, since none has a `requires`; t is the table's part of the record where it takes one:
--   n ≡ coded (table_says (table_of t))            dudowiej_read_table
--   n ≡ coded (goal_says g (goal_with t g))        dudowiej_read_goal
--   n ≡ coded (row_says (table_of t) j)            dudowiej_row
--   n ≡ coded (plan_says (plan_of t p))            dudowiej_check_plan
--   RunCoded t p g room room' n                  dudowiej_run_plan
--   BuildCoded rec room room' n                  dudowiej_build_plan (proofs/Records)
use Prim.Native.Nat.{ℕ, ◌+◌, ◌*◌}
use mathlib.Core.Path.{◌≡◌, sym, ◌∙◌, subst}
use mathlib.Core.Logic.{◌↔◌}
use mathlib.Core.List.{List}
use lib.ListN.{length}
use Rattle.term.specs.Unify.{Finite, Matches}
use Rattle.term.proofs.Finite.{finite-unifier}
use Rattle.refusal.specs.Refusal.{refused, answered}
use Rattle.refusal.specs.Coded.{coded, decoded}
use Rattle.refusal.specs.declared.Reason.TheVariants as reason
use Rattle.refusal.specs.declared.Input.TheVariants as input
use Rattle.refusal.specs.Read.{read, refuse}
use Rattle.table.specs.Table.{table, table_of, table_says, goal_of, goal_with, goal_says, row_of, row_in}
use Rattle.table.specs.Table.{IsTable, IsGoal, Repeats, RowRepeats}
use Rattle.table.proofs.Accepted.{table-accepted, goal-accepted}
use Rattle.table.proofs.SameLaws.{same-exactly, row-same-exactly}
use Rattle.checker.specs.Checked.{plan_says}
use Rattle.plan.specs.Plans.{Plan, write, branches, OneRow}
use Rattle.plan.specs.Check.{plan_of}
use Rattle.plan.proofs.OneRow.{table-one-row}
use Rattle.answer.proofs.Theorems.{same-hits}
use Rattle.answer.specs.declared.Job.{Job}
use Rattle.dudowiej.specs.Coded.{row_says, RunCoded, JobsCoded}
use Rattle.dudowiej.proofs.Back.{table-back, goal-back, row_back, plan-back, run-back, jobs-back}
use Rattle.demands.specs.Demands.{Demand1Table, Demand1Goal, Demand1Row, Demand1Place, Demand1Check, Demand1Run, Demand2, TriedFew}
use Rattle.demands.specs.Demands.{Demand3Check, Demand3Run}
use Rattle.demands.specs.Shift.{Shift}
use Rattle.demands.proofs.Shift.{w-202}
use Rattle.demands.proofs.Cited.{reads, table_kept, goal-kept, row_kept, place_kept, plan-kept, run-kept}
use Rattle.demands.proofs.Cited.{check-accepts, run-answers, any-plan-answers, tried-few}

-- DEMAND 1. Refused by the number and place that 01 fixes, with nothing written. How it is carried: that what is read is what 01 calls a table
-- or a goal, `table-accepted` and `goal-accepted` (table/proofs/Accepted); that the number is read back, `read_back` (refusal/proofs/CodedLaws).
pub demand-1-read-table : (t : List ℕ) {n : ℕ} → n ≡ coded (table_says (table_of t)) → Demand1Table t (decoded n)
demand-1-read-table t e = subst (Demand1Table t) (sym (table-back t e)) (table_kept t)

pub demand-1-read-goal : (t g : List ℕ) {n : ℕ} → n ≡ coded (goal_says g (goal_with t g)) → Demand1Goal t g (decoded n)
demand-1-read-goal t g e = subst (Demand1Goal t g) (sym (goal-back t g e)) (goal-kept t g)

pub demand-1-row : (t : List ℕ) (j : ℕ) {n : ℕ} → n ≡ coded (row_says (table_of t) j) → Demand1Place t j (decoded n)
demand-1-row t j e = subst (Demand1Place t j) (sym (row_back t j e)) (place_kept t j)

-- the part itself, which `table::row` hands out
pub demand-1-row-part : (t : List ℕ) (j : ℕ) {row : List ℕ} → row ≡ row_in (table_of t) j → Demand1Row t j row
demand-1-row-part = row_kept

pub demand-1-check : (t p : List ℕ) {n : ℕ} → n ≡ coded (plan_says (plan_of t p)) → Demand1Check t p (decoded n)
demand-1-check t p e = subst (Demand1Check t p) (sym (plan-back t p e)) (plan-kept t p)

pub demand-1-run : {t p g room room' : List ℕ} {n : ℕ} → RunCoded t p g room room' n → Demand1Run t p g room room' (decoded n)
demand-1-run {t} {p} {g} {room} {room'} x = subst (Demand1Run t p g room room') (sym (run-back x)) (run-kept x.ran)

-- what is read is a table, or a goal, exactly when 01 calls it one
pub demand-1-table : (t : List ℕ) (w : ℕ) (rows : List (List ℕ)) → (table_of t ≡ read (table w rows)) ↔ IsTable t w rows
demand-1-table = table-accepted

pub demand-1-goal : (w : ℕ) (g : List ℕ) → ((v : ℕ) × (goal_of w g ≡ read v)) ↔ IsGoal w g
demand-1-goal = goal-accepted

-- DEMAND 2. The rows reported are exactly those whose heads unify with the goal; the branches tried are those that 01 defines. How it is
-- carried: the loop along a noted plan goes through the plan's tree (`walked`, run/proofs/EntryLaws); one decision is one step of unification
-- (`after-correct`, `step`: answer/proofs/AfterLaws, SkeletonLaws); so what a tree hits are the rows that unify (`hits-mean`, MeaningLaws), from
-- the first state on with nothing decided (`hits-right`, AcceptedLaws).
pub demand-2 : {t p g room room' : List ℕ} {n : ℕ} → RunCoded t p g room room' n → Demand2 t p g room room' (decoded n)
demand-2 {t} {p} {g} {room} {room'} x = subst (Demand2 t p g room room') (sym (run-back x)) (run-answers x.ran)

-- "as Prolog means it": by a finite substitution
pub demand-2-finite : (row g : List ℕ) → Matches row g → (u : Matches row g) × Finite u.by
demand-2-finite row g = finite-unifier

-- 01, "A run": how many branches are tried at most, and of the goal of distinct variables
pub demand-2-tried : {t p g room room' : List ℕ} {n : ℕ} → RunCoded t p g room room' n → TriedFew t p g room (decoded n)
demand-2-tried {t} {p} {g} {room} x = subst (TriedFew t p g room) (sym (run-back x)) (tried-few x.ran)

-- DEMAND 3. The check accepts what a plan of the rows writes, and every such plan answers as 2 says. How it is carried: `accepted-one`
-- (plan/proofs/CheckLaws): the check's tests, one after another, are passed exactly by what one tree writes. That the builder's plan costs
-- least by every measure is `builds-from` of proofs/Records, by `the-least` (least/proofs/LeastPlan): a place that all rows agree on may be
-- taken first (`exchange`), and the equation over pairs of rows gives the rest (`equation`, `pair-entry`).
pub demand-3-check : (t p : List ℕ) {n : ℕ} → n ≡ coded (plan_says (plan_of t p)) → Demand3Check t p (decoded n)
demand-3-check t p e = subst (Demand3Check t p) (sym (plan-back t p e)) (check-accepts t p)

pub demand-3-run : {t p g room room' : List ℕ} {n : ℕ} → RunCoded t p g room room' n → Demand3Run t p g room room' (decoded n)
demand-3-run {t} {p} {g} {room} {room'} x = subst (Demand3Run t p g room room') (sym (run-back x)) (any-plan-answers x.ran)

-- and so two accepted plans report the same rows
pub demand-3-same-rows : {t p p' g room room' room'' : List ℕ} {m n b b' : ℕ} → plan_of t p ≡ read b → plan_of t p' ≡ read b'
    → RunCoded t p g room room' m → RunCoded t p' g room room'' n
    → (room' ≡ room'') × ((h k h' k' : ℕ) → decoded m ≡ answered h k → decoded n ≡ answered h' k' → h ≡ h')
demand-3-same-rows e e' x y =
    let s = same-hits e e' x.ran y.ran in
    (s.0, λ h k h' k' q q'. s.1 h k h' k' (sym (run-back x) ∙ q) (sym (run-back y) ∙ q'))

-- "In the base, no row uses one variable twice": W-209 takes this sentence away (proofs/Twice).

-- W-208 (02). "From then on a leaf has exactly one row": of every plan of an accepted table, which so has 3·B + 2 − R cells for R rows. That
-- no row without variables stands twice in a table is in `demand-1-table`: `IsTable.apart`.
pub request-208 : (t : List ℕ) {w : ℕ} {rows : List (List ℕ)} → IsTable t w rows → (p : Plan w rows)
    → OneRow p × (length (write p) + length rows ≡ 3 * branches p + 2)
request-208 t i = table-one-row t (reads i)

-- "Refuse it anywhere in the table .. SAME at the later row's first cell, when that row is complete, before anything of the next row and
-- before EXTRA"; and beside other rows, in an edit, at 0.
pub request-208-same : (t : List ℕ) (p : ℕ) → (table_of t ≡ refuse (refused reason.Same input.Table p)) ↔ Repeats t p
request-208-same = same-exactly

pub request-208-edits : (w : ℕ) (others : List (List ℕ)) (row : List ℕ)
    → (row_of w others row ≡ refuse (refused reason.Same input.Table 0)) ↔ RowRepeats w others row
request-208-edits = row-same-exactly

-- W-202 (02). Every goal of a list is answered in its record as by itself, refused ones too; a bad table or plan touches no record.
pub request-202 : {t p cells : List ℕ} {jobs jobs' : List Job} {n : ℕ} → JobsCoded t p cells jobs jobs' n → Shift t p cells jobs jobs' (decoded n)
request-202 {t} {p} {cells} {jobs} {jobs'} x = subst (Shift t p cells jobs jobs') (sym (jobs-back x)) (w-202 x.ran)

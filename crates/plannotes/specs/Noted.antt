-- What is noted of a plan for a run, with the answer of the check (01, "A run": "it tests the goal only at the branches it counts").
use Rattle.std.specs.Prelude.{ℕ, ◌≡◌, List, ◌++◌, map, length, drop}
use Rattle.std.specs.Prelude.{Ok}
use Rattle.refusal.specs.Refusal.{Refused, turned}
use Rattle.refusal.specs.Read.{read, refuse}
use Rattle.table.specs.Table.{Table, table_of, up_from}
use Rattle.plan.specs.Plans.{Plan, write, branches}
use Rattle.plan.specs.Check.{plan_of}
use Rattle.plan.specs.Notes.{notes, word}
use Rattle.checker.specs.Checked.{plan_told}
use Rattle.plannotes.specs.declared.Noted.{Noted}

-- Of a table t, a plan p and the lent numbers, before and after. Where the plan is accepted: its number of branches, the table's width and
-- number of rows, and in the first of the numbers one for each branch, in plan order; the other numbers are as they were. The goal's
-- arguments have the slots from 1 on, those from 32 on are free, and the first row is row 0. Where the table or the plan is turned away: the refusal,
-- 0 and 0, and
-- no number is changed.
pub data NotedInto (t p before after : List ℕ) (m : Noted) : Type 0 where
  noted : (T : Table) (tree : Plan T.width T.rows) → table_of t ≡ read T → p ≡ write tree
      → m.answer ≡ Ok (branches tree) → m.width ≡ T.width → m.rows ≡ length T.rows
      → after ≡ map word (notes tree (up_from 1 T.width) 32 0) ++ drop (branches tree) before → NotedInto t p before after m
  refused : (f : Refused) → plan_of t p ≡ refuse f → plan_told m.answer ≡ turned f → m.width ≡ 0 → m.rows ≡ 0 → after ≡ before
      → NotedInto t p before after m

-- W-203, "Show what the rule says", sentence by sentence, as statements of what the entry is given and what it answers. proofs/Replies proves
-- each of the entry's promise, and src/lib.rt ties it to the entry.
use Rattle.std.specs.Prelude.{ℕ, ◌*◌, ◌≤◌, ◌<◌, ◌≡◌, ◌↔◌, length, drop}
use mathlib.Core.List.{List, ◌++◌, flatten}
use Rattle.refusal.specs.Refusal.{Refused, refused, Answer, answered, turned}
use Rattle.refusal.specs.declared.Reason.TheVariants as reason
use Rattle.refusal.specs.declared.Input.TheVariants as input
use Rattle.refusal.specs.Read.{refuse}
use Rattle.table.specs.All.{All}
use Rattle.table.specs.Table.{table_of, goal_of, IsTable, IsGoal}
use Rattle.plan.specs.Plans.{Plan, write}
use Rattle.plan.specs.Check.{plan_of}
use Rattle.instance.specs.Reply.{Replies, Short, Large}
use Rattle.limits.specs.Limits.{most_reply_cells}

-- "Refusals: table, plan, goal, then ROOM when the lent cells are too few for all replies", and W-209, "W-203 gives BIG, before ROOM,
-- exactly when a reply needs over 1,024 cells": what turns it away, and the refusal that it gets
pub data RepliesTurned (cells plan goal room : List ℕ) (refusal : Refused) : Type 0 where
  bad-table : table_of cells ≡ refuse refusal → RepliesTurned cells plan goal room refusal
  bad-plan : {width : ℕ} {rows : List (List ℕ)} → IsTable cells width rows → plan_of cells plan ≡ refuse refusal
      → RepliesTurned cells plan goal room refusal
  bad-goal : {width : ℕ} {rows : List (List ℕ)} → IsTable cells width rows → (tree : Plan width rows) → write tree ≡ plan
      → goal_of width goal ≡ refuse refusal → RepliesTurned cells plan goal room refusal
  big : {width : ℕ} {rows : List (List ℕ)} (all : List (List ℕ)) → IsTable cells width rows → (tree : Plan width rows) → write tree ≡ plan
      → IsGoal width goal → Replies goal rows all → Large all → refusal ≡ refused reason.Big input.Goal 0
      → RepliesTurned cells plan goal room refusal
  bad-room : {width : ℕ} {rows : List (List ℕ)} (all : List (List ℕ)) → IsTable cells width rows → (tree : Plan width rows) → write tree ≡ plan
      → IsGoal width goal → Replies goal rows all → All Short all → length room < length (flatten all)
      → refusal ≡ refused reason.Room input.Lent (length (flatten all)) → RepliesTurned cells plan goal room refusal

-- with nothing written (demand 1)
pub record RepliesRefused (cells plan goal room after : List ℕ) (answer : Answer) : Type 0 where
  pub refuses : (f : Refused) → (answer ≡ turned f) ↔ RepliesTurned cells plan goal room f
  pub untouched : (f : Refused) → answer ≡ turned f → after ≡ room

-- "For each hit, write the goal with the hit's bindings filled in, variables renumbered by first appearance. It is the most general common
-- instance, fixed as cells. Replies follow one another in row order; their number and that of cells are returned." `all` are the replies of
-- the rows that unify with the goal (crate instance, specs/Reply), and no other list is
pub record Said (rows : List (List ℕ)) (goal room after : List ℕ) (answer : Answer) : Type 0 where
  pub all : List (List ℕ)
  pub each : Replies goal rows all
  pub fixed : (others : List (List ℕ)) → Replies goal rows others → others ≡ all
  -- W-209, "BIG, before ROOM, exactly when a reply needs over 1,024 cells": with any room
  pub large : (answer ≡ turned (refused reason.Big input.Goal 0)) ↔ Large all
  -- then ROOM, and the replies otherwise
  pub full : (answer ≡ turned (refused reason.Room input.Lent (length (flatten all))))
      ↔ (All Short all × (length room < length (flatten all)))
  pub told : (answer ≡ answered (length all) (length (flatten all))) ↔ (All Short all × (length (flatten all) ≤ length room))
  pub wrote : All Short all → length (flatten all) ≤ length room → after ≡ flatten all ++ drop (length (flatten all)) room
  -- so what is answered has at most 1,024 cells each, and so many for every row are always enough
  pub small : (n m : ℕ) → answer ≡ answered n m → All Short all
  pub enough : All Short all → length (flatten all) ≤ length rows * most_reply_cells

abbrev pub Says : (cells plan goal room after : List ℕ) → Answer → Type 0
Says cells plan goal room after answer =
    (width : ℕ) (rows : List (List ℕ)) (tree : Plan width rows) → IsTable cells width rows → write tree ≡ plan → IsGoal width goal
    → Said rows goal room after answer

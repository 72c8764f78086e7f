-- What the entry answers (02, W-203), and what its room then holds.
use Rattle.std.specs.Prelude.{Result, Ok, Err, ℕ, ◌≤◌, ◌<◌, ◌≡◌, length, drop}
use Rattle.instance.specs.declared.ReplyCounts.{ReplyCounts}
use Rattle.refusal.specs.declared.Refusal.{Refusal}
use mathlib.Core.List.{List, ◌++◌, flatten}
use Rattle.refusal.specs.Refusal.{Refused, refused, told, Answer, answered, turned}
use Rattle.refusal.specs.declared.Reason.TheVariants as reason
use Rattle.refusal.specs.declared.Input.TheVariants as input
use Rattle.refusal.specs.Read.{Read, read, refuse, and_then}
use Rattle.table.specs.All.{All}
use Rattle.table.specs.Table.{Table, table_of, goal_of}
use Rattle.plan.specs.Check.{plan_of}
use Rattle.instance.specs.Reply.{Replies, Short, Large}

-- 02, "Refusals: table, plan, goal, then ROOM", W-209, "BIG, before ROOM": what comes before both
unfoldable pub replies_of : (table plan goal : List ℕ) → Read Table
replies_of table plan goal =
    and_then (table_of table) (λ (T : Table).
    and_then (plan_of table plan) (λ (branches : ℕ).
    and_then (goal_of T.width goal) (λ (vars : ℕ). read T)))

abbrev pub replies_told : Result ReplyCounts Refusal → Answer
replies_told (Ok n) = answered n.replies n.cells
replies_told (Err f) = turned (told f)

-- Refused: nothing is written. W-209, "BIG, before ROOM, exactly when a reply needs over 1,024 cells": it concerns the goal, at place 0.
-- "ROOM when the lent cells are too few for all replies"; its place is the cells needed (01). Otherwise "replies follow one another in row
-- order; their number and that of cells are returned", and the rest of the room is untouched
pub data Replied (table plan goal room room' : List ℕ) (result : Result ReplyCounts Refusal) : Type 0 where
  refusal : (f : Refused) → replies_of table plan goal ≡ refuse f → replies_told result ≡ turned f → room' ≡ room
      → Replied table plan goal room room' result
  big : (T : Table) (all : List (List ℕ)) → replies_of table plan goal ≡ read T → Replies goal T.rows all → Large all
      → replies_told result ≡ turned (refused reason.Big input.Goal 0) → room' ≡ room → Replied table plan goal room room' result
  no_room : (T : Table) (all : List (List ℕ)) → replies_of table plan goal ≡ read T → Replies goal T.rows all → All Short all
      → length room < length (flatten all) → replies_told result ≡ turned (refused reason.Room input.Lent (length (flatten all)))
      → room' ≡ room → Replied table plan goal room room' result
  replied : (T : Table) (all : List (List ℕ)) → replies_of table plan goal ≡ read T → Replies goal T.rows all → All Short all
      → length (flatten all) ≤ length room → replies_told result ≡ answered (length all) (length (flatten all))
      → room' ≡ flatten all ++ drop (length (flatten all)) room → Replied table plan goal room room' result

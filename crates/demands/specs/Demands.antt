-- The demands (document 00), sentence by sentence, as statements of what an entry is given and what it answers. proofs/Demands proves each
-- of the entry's promise, and src/lib.rt ties each to the entry that customers link.
--
-- `cells`, `plan`, `goal` are the cells of table, plan and goal as they were lent; where an entry takes a record, `cells` are the table's part
-- of it (crate record). `room` and `after` are the lent room before and after. `answer` is the answer as 01 counts it: `answered` with its two
-- values or `turned` with a refusal, its number, the input it concerns and its place. What a table, a goal and a plan are is said by `IsTable`,
-- `IsGoal` and `Plan`. What is refused goes by 01's tests in 01's order: what is read (`table_of`, `goal_with`, `plan_of`) is `read` or a refusal.
use Rattle.std.specs.Prelude.{ℕ, ◌+◌, ◌≤◌, ◌<◌, ◌≡◌, ◌↔◌, length, get_or, take, drop, replicate}
use mathlib.Core.List.{List, [], ◌++◌, Memᴰ, flatten}
use Rattle.term.specs.Unify.{Matches}
use Rattle.refusal.specs.Refusal.{Refused, refused, Answer, answered, turned}
use Rattle.refusal.specs.declared.Reason.TheVariants as reason
use Rattle.refusal.specs.declared.Input.TheVariants as input
use Rattle.refusal.specs.Read.{read, refuse}
use Rattle.table.specs.Table.{table, table_of, goal_of, goal_with, IsTable, IsGoal, appear, up_from}
use Rattle.plan.specs.Plans.{Plan, write, branches}
use Rattle.plan.specs.Named.{flags_of}
use Rattle.plan.specs.Check.{plan_of, plan_with}
use Rattle.least.specs.Least.{Built}
use Rattle.least.specs.Measures.{measure_of, cost_by}
use Rattle.least.specs.declared.By.{By}
use Rattle.answer.specs.Skeleton.{hole}
use Rattle.answer.specs.Run.{Ascends, Counts, skeletons, Tried}
use Rattle.demands.specs.Kind.{There, Missing, NoneOrAll, OfKind}
use Rattle.limits.specs.Limits.{most_plan_cells}

-- DEMAND 1. "Every entry takes any cells at all and ends. .. Nobody has to check first." No public function has a `requires`, and that a
-- function returns is part of what the checker proves of it. "A bad table, plan or goal is refused by the number and place document 01
-- fixes, with nothing written to what the caller lent": refused exactly as it is read; and what 01 calls a table or a goal is accepted (for
-- a plan see demand 3).
pub record Demand1Table (cells : List ℕ) (answer : Answer) : Type 0 where
  pub refuses : (f : Refused) → (answer ≡ turned f) ↔ (table_of cells ≡ refuse f)
  pub accepts : (width : ℕ) (rows : List (List ℕ)) → IsTable cells width rows → answer ≡ answered width (length rows)

pub record Demand1Goal (cells goal : List ℕ) (answer : Answer) : Type 0 where
  pub refuses : (f : Refused) → (answer ≡ turned f) ↔ (goal_with cells goal ≡ refuse f)
  pub accepts : (width : ℕ) (rows : List (List ℕ)) → IsTable cells width rows → IsGoal width goal
      → answer ≡ answered (length goal) (length (appear [] goal))

-- 01, "The row handed out by number is that part of the lent table and no copy; where the table is refused or has no such row, that part is
-- empty": the part itself, which is no entry's answer
pub record Demand1Row (cells : List ℕ) (number : ℕ) (row : List ℕ) : Type 0 where
  pub none : (f : Refused) → table_of cells ≡ refuse f → row ≡ []
  pub some : (width : ℕ) (rows : List (List ℕ)) → IsTable cells width rows → row ≡ get_or rows number []

-- and where it is, as the entry answers: its start in the table and how many cells it has, both 0 where there is none
pub record Demand1Place (cells : List ℕ) (number : ℕ) (answer : Answer) : Type 0 where
  pub none : (f : Refused) → table_of cells ≡ refuse f → answer ≡ answered 0 0
  pub missing : (width : ℕ) (rows : List (List ℕ)) → IsTable cells width rows → length rows ≤ number → answer ≡ answered 0 0
  pub some : (width : ℕ) (rows : List (List ℕ)) → IsTable cells width rows → number < length rows
      → (answer ≡ answered (2 + length (flatten (take number rows))) (length (get_or rows number [])))
      × (take (length (get_or rows number [])) (drop (2 + length (flatten (take number rows))) cells) ≡ get_or rows number [])

pub record Demand1Check (cells plan : List ℕ) (answer : Answer) : Type 0 where
  pub refuses : (f : Refused) → (answer ≡ turned f) ↔ (plan_of cells plan ≡ refuse f)

-- 02, W-204, "FIGURE for a figure above 15, before the table's", W-213, "COLUMN for a column not below the width, after the table's and before
-- .. ROOM", and 01, "Building checks the table, then ROOM (fewer cells lent than the plan has)": what turns a building by a measure away, for
-- named columns or, by the empty list, for none; and the refusal that it gets. The place of ROOM is the number of cells needed
pub data BuildTurned (by : By) (columns cells room : List ℕ) (refusal : Refused) : Type 0 where
  no-figure : 15 < (measure_of by).figure → refusal ≡ refused reason.Figure input.Figure 0 → BuildTurned by columns cells room refusal
  no_table : (measure_of by).figure ≤ 15 → table_of cells ≡ refuse refusal → BuildTurned by columns cells room refusal
  no-column : {width : ℕ} {rows : List (List ℕ)} → (measure_of by).figure ≤ 15 → IsTable cells width rows → Missing width columns
      → refusal ≡ refused reason.Column input.Columns 0 → BuildTurned by columns cells room refusal
  no_room : {width : ℕ} {rows : List (List ℕ)} → (measure_of by).figure ≤ 15 → IsTable cells width rows → There width columns
      → (tree : Plan width rows) → Built (measure_of by) (flags_of width columns) tree → length room < length (write tree)
      → refusal ≡ refused reason.Room input.Lent (length (write tree)) → BuildTurned by columns cells room refusal

pub record Demand1Build (by : By) (columns cells room after : List ℕ) (answer : Answer) : Type 0 where
  pub refuses : (f : Refused) → (answer ≡ turned f) ↔ BuildTurned by columns cells room f
  pub untouched : (f : Refused) → answer ≡ turned f → after ≡ room

-- 01, "A run takes table, plan, goal, then ROOM (fewer bytes lent than the table has rows)": what turns a run away, and the refusal that it
-- gets
pub data RunTurned (cells plan goal room : List ℕ) (refusal : Refused) : Type 0 where
  bad-table : table_of cells ≡ refuse refusal → RunTurned cells plan goal room refusal
  bad-plan : {width : ℕ} {rows : List (List ℕ)} → IsTable cells width rows → plan_of cells plan ≡ refuse refusal
      → RunTurned cells plan goal room refusal
  bad-goal : {width : ℕ} {rows : List (List ℕ)} → IsTable cells width rows → (tree : Plan width rows) → write tree ≡ plan
      → goal_of width goal ≡ refuse refusal → RunTurned cells plan goal room refusal
  bad-room : {width : ℕ} {rows : List (List ℕ)} → IsTable cells width rows → (tree : Plan width rows) → write tree ≡ plan
      → IsGoal width goal → length room < length rows → refusal ≡ refused reason.Room input.Lent (length rows)
      → RunTurned cells plan goal room refusal

pub record Demand1Run (cells plan goal room after : List ℕ) (answer : Answer) : Type 0 where
  pub refuses : (f : Refused) → (answer ≡ turned f) ↔ RunTurned cells plan goal room f
  pub untouched : (f : Refused) → answer ≡ turned f → after ≡ room

-- DEMAND 2. "For an accepted table, plan and goal, and room for every row of the table, the rows reported are exactly those whose heads
-- unify with the goal, as Prolog means it, from the top down, each once. The number of branches tried is the number document 01 defines."
-- `found` are the numbers of the rows reported, first in the room; the branches tried are those of the plan for which the goal unifies with
-- what is decided above them
pub record Answers {width : ℕ} {rows : List (List ℕ)} (tree : Plan width rows) (goal room after : List ℕ) (answer : Answer) : Type 0 where
  pub found : List ℕ
  pub exactly : (j : ℕ) → Memᴰ j found ↔ ((j < length rows) × Matches (get_or rows j []) goal)
  pub ascends : Ascends 0 found
  pub tried : ℕ
  pub branches : Counts (Tried goal) (skeletons tree (replicate width hole)) tried
  pub told : answer ≡ answered (length found) tried
  pub wrote : after ≡ found ++ drop (length found) room

abbrev pub Demand2 : (cells plan goal room after : List ℕ) → Answer → Type 0
Demand2 cells plan goal room after answer =
    (width : ℕ) (rows : List (List ℕ)) (tree : Plan width rows) → IsTable cells width rows → write tree ≡ plan → IsGoal width goal
    → length rows ≤ length room → Answers tree goal room after answer

-- 01, "A run": "That number never exceeds the plan's cost, and equals it for the goal of distinct variables", where the cost is the number of
-- branches, which the check answers. 02, W-204: "bounded by the plan's branch count, not by its cost"
pub record TriedFew (cells plan goal room : List ℕ) (answer : Answer) : Type 0 where
  pub bound : (b hits tried : ℕ) → plan_of cells plan ≡ read b → answer ≡ answered hits tried → tried ≤ b
  pub variables : (width : ℕ) (rows : List (List ℕ)) (b : ℕ) → IsTable cells width rows → plan_of cells plan ≡ read b → length rows ≤ length room
      → goal ≡ up_from 0 width → (hits : ℕ) × (answer ≡ answered hits b)

-- DEMAND 3. "Anyone may hand in a plan for an accepted table. The check accepts it exactly when, written as document 01 sets out, each step
-- names one place not yet looked at and splits its rows there into the longest runs of neighbours that agree, down to rows with no place
-- left": exactly when a plan of the table's rows writes these cells, and then one only
pub record Writes (width : ℕ) (rows : List (List ℕ)) (plan : List ℕ) (cost : ℕ) : Type 0 where
  pub tree : Plan width rows
  pub cells : write tree ≡ plan
  pub count : branches tree ≡ cost
  pub only : (other : Plan width rows) → write other ≡ plan → other ≡ tree

abbrev pub Demand3Check : (cells plan : List ℕ) → Answer → Type 0
Demand3Check cells plan answer =
    (width : ℕ) (rows : List (List ℕ)) → IsTable cells width rows → (b : ℕ) → (answer ≡ answered b 0) ↔ Writes width rows plan b

-- "Every accepted plan answers every accepted goal as 2 says."
abbrev pub Demand3Run : (cells plan goal room after : List ℕ) → Answer → Type 0
Demand3Run cells plan goal room after answer =
    (width : ℕ) (rows : List (List ℕ)) (b : ℕ) → IsTable cells width rows → plan_of cells plan ≡ read b → IsGoal width goal
    → length rows ≤ length room → (w : Writes width rows plan b) × Answers w.tree goal room after answer

-- "The plan our builder writes has the fewest branches of all plans the check accepts for that table", and 02, W-204, "Least in demand 3
-- now reads by this measure; ties as before", with 01's number of branches as one more: the check accepts what is written and answers its
-- number of branches; the cost that is answered is that plan's, and no plan of the table costs less. By demand 3's check these are all that
-- the check accepts. Of several that cost least it is the one that 01 fixes ("The builder's plan is fixed")
pub record LeastBy (by : By) (cells plan : List ℕ) (cost : ℕ) : Type 0 where
  pub width : ℕ
  pub rows : List (List ℕ)
  pub is-table : IsTable cells width rows
  pub tree : Plan width rows
  pub written : write tree ≡ plan
  pub checked : plan_of cells plan ≡ read (branches tree)
  pub costs : cost_by by tree ≡ cost
  pub none-less : (other : Plan width rows) → cost ≤ cost_by by other
  pub rule : Built (measure_of by) [] tree

-- W-213, "The builder's plan is least among accepted plans of this kind, ties as in 01 within what may be chosen": the same of the plans of the
-- kind, by the check for it, which accepts these alone; and demand 3's check accepts it too
pub record LeastFor (by : By) (columns cells plan : List ℕ) (cost : ℕ) : Type 0 where
  pub width : ℕ
  pub rows : List (List ℕ)
  pub is-table : IsTable cells width rows
  pub tree : Plan width rows
  pub kind : OfKind columns tree
  pub written : write tree ≡ plan
  pub accepted : plan_with (flags_of width columns) (table width rows) plan ≡ read (branches tree)
  pub checked : plan_of cells plan ≡ read (branches tree)
  pub costs : cost_by by tree ≡ cost
  pub none-less : (other : Plan width rows) → OfKind columns other → cost ≤ cost_by by other
  pub rule : Built (measure_of by) (flags_of width columns) tree

-- Given a small figure, columns that are there and room for any plan it writes one. "with no column named, or all of them, it is the plain least
-- plan": so this is demand 3 for the empty list
pub record Demand3Build (by : By) (columns cells room after : List ℕ) (answer : Answer) : Type 0 where
  pub builds : (width : ℕ) (rows : List (List ℕ)) → (measure_of by).figure ≤ 15 → IsTable cells width rows → There width columns
      → most_plan_cells ≤ length room → (n : ℕ) × (cost : ℕ) × (answer ≡ answered n cost)
  pub least : (n cost : ℕ) → answer ≡ answered n cost → LeastFor by columns cells (take n after) cost
  pub plain : (width : ℕ) (rows : List (List ℕ)) (n cost : ℕ) → IsTable cells width rows → NoneOrAll width columns
      → answer ≡ answered n cost → LeastBy by cells (take n after) cost
  -- 01, "the rest of the room is untouched"
  pub rest : (n cost : ℕ) → answer ≡ answered n cost → drop n after ≡ drop n room

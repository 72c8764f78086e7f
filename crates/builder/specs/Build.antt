-- What building answers.
use Rattle.std.specs.Prelude.{Result, Ok, Err, ℕ, ◌≤◌, ◌<◌, ◌≡◌, Bool, List, [], ◌++◌, length, drop}
use Rattle.builder.specs.declared.BuiltPlan.{BuiltPlan}
use Rattle.refusal.specs.declared.Refusal.{Refusal}
use Rattle.refusal.specs.Refusal.{Refused, refused, told, Answer, answered, turned}
use Rattle.refusal.specs.declared.Reason.TheVariants as reason
use Rattle.refusal.specs.declared.Input.TheVariants as input
use Rattle.refusal.specs.Read.{Read, read, refuse, and_then}
use Rattle.table.specs.Table.{Table}
use Rattle.plan.specs.Plans.{Plan, write}
use Rattle.plan.specs.Named.{flags_of}
use Rattle.plan.specs.Check.{columns_for}
use Rattle.least.specs.Least.{Least, Built}
use Rattle.least.specs.Measures.{measure_of, cost_by, table_by}
use Rattle.least.specs.declared.By.{By}
use Rattle.least.specs.declared.By.TheVariants.{Work}
use Rattle.record.specs.Record.{cells_in, Holds}

-- 01, "Building returns the number of cells written and the cost"; a refusal "its number, which input it concerns and a place"
abbrev pub build_told : Result BuiltPlan Refusal → Answer
build_told (Ok n) = answered n.cells n.cost
build_told (Err f) = turned (told f)

-- What is read where a plan is asked by a measure, for named columns: FIGURE, the table's refusals, then COLUMN (02, W-213, "after the table's
-- and before the plan's and ROOM"). With no column named it is `table_by` (proofs/PlainLaws)
unfoldable pub table_for : (by : By) (columns cells : List ℕ) → Read Table
table_for by columns cells = and_then (table_by by cells) (λ (T : Table). and_then (columns_for T columns) (λ (named : List Bool). read T))

-- What building answers by a measure, for named columns, for a table and a room, and what the room then holds. W-204, "FIGURE .. before the
-- table's"; W-213, COLUMN; 01, "Building checks the table, then ROOM (fewer cells lent than the plan has)", ROOM's place being the cells needed;
-- "a refusal .. writes nothing"; "On success the cells written come first and the rest of the room is untouched". The plan is the builder's and
-- least among the plans that look into named columns first; with no column named that is every plan. The cost is by the measure
pub data BuiltInto (by : By) (columns cells room room' : List ℕ) (answer : Result BuiltPlan Refusal) : Type 0 where
  table-refused : (f : Refused) → table_for by columns cells ≡ refuse f → build_told answer ≡ turned f → room' ≡ room
      → BuiltInto by columns cells room room' answer
  room-refused : (table : Table) (plan : Plan table.width table.rows) → table_for by columns cells ≡ read table
      → Built (measure_of by) (flags_of table.width columns) plan
      → length room < length (write plan) → build_told answer ≡ turned (refused reason.Room input.Lent (length (write plan)))
      → room' ≡ room → BuiltInto by columns cells room room' answer
  built : (table : Table) (plan : Plan table.width table.rows) → table_for by columns cells ≡ read table
      → Built (measure_of by) (flags_of table.width columns) plan
      → Least (measure_of by) (flags_of table.width columns) table.width table.rows (cost_by by plan)
      → length (write plan) ≤ length room → build_told answer ≡ answered (length (write plan)) (cost_by by plan)
      → room' ≡ write plan ++ drop (length (write plan)) room → BuiltInto by columns cells room room' answer

-- What building from a record answers: of one that holds a table, what building by its figure answers for that table. 02, W-207, "That
-- it is such a one is the single premise a promise may have"; "with any other record an entry only ends, in bounds"
abbrev pub BuiltFrom : (rec room room' : List ℕ) (answer : Result BuiltPlan Refusal) → Type 0
BuiltFrom rec room room' answer = (figure : ℕ) (T : Table) → Holds rec figure T → BuiltInto (Work figure) [] (cells_in T) room room' answer

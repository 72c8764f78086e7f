-- W-213, "Columns that are always filled in", as statements of what the two entries are given and what they answer. proofs/Columns proves each
-- of the entries' promises, and src/lib.rt ties it to the entries. What is built is said with the plain builder (specs/Demands).
use Rattle.std.specs.Prelude.{ℕ, ◌≡◌, ◌↔◌, List, get_or}
use Rattle.refusal.specs.Refusal.{Refused, refused, Answer, answered, turned}
use Rattle.refusal.specs.declared.Reason.TheVariants as reason
use Rattle.refusal.specs.declared.Input.TheVariants as input
use Rattle.refusal.specs.Read.{read, refuse}
use Rattle.table.specs.Table.{table, table_of, IsTable}
use Rattle.plan.specs.Plans.{Plan, write, branches}
use Rattle.plan.specs.Named.{flags_of}
use Rattle.plan.specs.Check.{plan_of, plan_with}
use Rattle.least.specs.declared.By.TheVariants.{Work}
use Rattle.record.specs.Record.{table_in}
use Rattle.demands.specs.Kind.{There, Missing, SameColumns, NoneOrAll, OfKind}
use Rattle.demands.specs.Demands.{Demand1Build, Demand3Build}

-- "Refusals: COLUMN .., after the table's and before the plan's", and among the plan's "the check for this kind gives EARLY at an index outside
-- the named columns while a place inside them is open, after OPEN" (crate plan, specs/Check): what turns a check away, and the refusal that
-- it gets
pub data CheckForTurned (cells columns plan : List ℕ) (refusal : Refused) : Type 0 where
  bad-table : table_of cells ≡ refuse refusal → CheckForTurned cells columns plan refusal
  no-column : {width : ℕ} {rows : List (List ℕ)} → IsTable cells width rows → Missing width columns
      → refusal ≡ refused reason.Column input.Columns 0 → CheckForTurned cells columns plan refusal
  bad-plan : {width : ℕ} {rows : List (List ℕ)} → IsTable cells width rows → There width columns
      → plan_with (flags_of width columns) (table width rows) plan ≡ refuse refusal → CheckForTurned cells columns plan refusal

-- a plan of the kind writes these cells, and no other plan does
pub record WritesKind (width : ℕ) (rows : List (List ℕ)) (columns plan : List ℕ) (count : ℕ) : Type 0 where
  pub tree : Plan width rows
  pub kind : OfKind columns tree
  pub cells : write tree ≡ plan
  pub counted : branches tree ≡ count
  pub only : (other : Plan width rows) → write other ≡ plan → other ≡ tree

pub record ChecksKind (cells columns plan : List ℕ) (answer : Answer) : Type 0 where
  pub refuses : (f : Refused) → (answer ≡ turned f) ↔ CheckForTurned cells columns plan f
  -- it accepts exactly the plans of this kind
  pub accepts : (width : ℕ) (rows : List (List ℕ)) → IsTable cells width rows → There width columns
      → (b : ℕ) → (answer ≡ answered b 0) ↔ WritesKind width rows columns plan b
  -- each of them is a plan, and demand 3's check gives the same answer; so "Its answers follow demand 2 unchanged" is `Demand3Run`
  pub plain : (b : ℕ) → answer ≡ answered b 0 → plan_of cells plan ≡ read b
  -- with no column named, or all of them, it is demand 3's check
  pub free : (width : ℕ) (rows : List (List ℕ)) → IsTable cells width rows → There width columns → NoneOrAll width columns
      → (f : Refused) → (answer ≡ turned f) ↔ (plan_of cells plan ≡ refuse f)

-- of the list as a set
abbrev pub ChecksFor : (cells columns plan : List ℕ) → Answer → Type 0
ChecksFor cells columns plan answer = (others : List ℕ) → SameColumns columns others → ChecksKind cells others plan answer

-- A plan for named columns is built by the record's figure from its table, of any record at all
abbrev pub BuildsFor : (rec columns room room' : List ℕ) → Answer → Type 0
BuildsFor rec columns room room' answer =
    (others : List ℕ) → SameColumns columns others → Demand1Build (Work (get_or rec 1 0)) others (table_in rec) room room' answer
    × Demand3Build (Work (get_or rec 1 0)) others (table_in rec) room room' answer

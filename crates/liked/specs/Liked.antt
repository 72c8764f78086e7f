-- The plan that a list of goals likes best: "of the plans that `build_for` gives for each set of columns, the one with the least total tried over
-- the list".
use Rattle.std.specs.Prelude.{Result, ℕ, zero, suc, ◌-◌, ◌^◌, ◌≤◌, ◌<◌, ◌≡◌, cond, List, [], ◌∷◌, eqb, length, take, drop, replicate}
use Rattle.builder.specs.declared.BuiltPlan.{BuiltPlan}
use Rattle.refusal.specs.declared.Refusal.{Refusal}
use Rattle.refusal.specs.Refusal.{Refused, Answer, answered, turned}
use Rattle.refusal.specs.Read.{read, refuse}
use Rattle.table.specs.Table.{Table}
use Rattle.least.specs.Measures.{table_by}
use Rattle.least.specs.declared.By.{By}
use Rattle.builder.specs.Build.{BuiltInto, build_told}
use Rattle.answer.specs.Jobs.{bit}
use Rattle.shift.specs.Totals.{TriesInAll}
use Rattle.liked.specs.declared.Columns.{Columns}
use Rattle.limits.specs.Limits.{most_columns}

-- "bit c for column c": of the columns from c on, so many, those whose bit is set
unfoldable pub columns_from : (c left mask : ℕ) → List ℕ
columns_from c zero mask = []
columns_from c (suc left) mask = cond (eqb (bit c mask) 1) (c ∷ columns_from (suc c) left mask) (columns_from (suc c) left mask)

-- the set of columns that a mask is; a table has at most 8 (proofs/ColumnLaws says it by membership)
abbrev pub columns_of : (mask : ℕ) → List ℕ
columns_of mask = columns_from 0 most_columns mask

-- these columns as the first of eight numbers; the others are 0
pub record ColumnsListed (mask : ℕ) (r : Columns) : Type 0 where
  pub size : length r.list ≡ most_columns
  pub few : r.count ≤ most_columns
  pub are : take r.count r.list ≡ columns_of mask
  pub others : drop r.count r.list ≡ replicate (most_columns - r.count) 0

-- "the total tried over the list" by the plan that `build_for` gives for a set of columns, whatever room it is given
pub record TriesFor (by : By) (cells goals list : List ℕ) (mask total : ℕ) : Type 0 where
  pub room : List ℕ
  pub after : List ℕ
  pub answer : Result BuiltPlan Refusal
  pub size : ℕ
  pub cost : ℕ
  pub built : BuiltInto by (columns_of mask) cells room after answer
  pub told : build_told answer ≡ answered size cost
  pub totals : TriesInAll cells (take size after) goals list total

-- "the one with the least total tried over the list; ties go to the plain plan, then to the smallest mask": the plain plan is that of the mask 0
pub record LikesBest (by : By) (cells goals list : List ℕ) (width mask total plain : ℕ) : Type 0 where
  pub set : mask < 2 ^ width
  pub tries : TriesFor by cells goals list mask total
  pub plainly : TriesFor by cells goals list 0 plain
  pub least : (other n : ℕ) → other < 2 ^ width → TriesFor by cells goals list other n → total ≤ n
  pub first : (other n : ℕ) → other < mask → TriesFor by cells goals list other n → total < n

-- "in a record of its own, the columns as a mask, the total tried, and what the plain plan would have tried"; a refusal writes nothing
abbrev pub liked_after : Answer → (mask total plain : ℕ) → List ℕ → List ℕ
liked_after (answered size cost) mask total plain liked = mask ∷ total ∷ plain ∷ []
liked_after (turned f) mask total plain liked = liked

-- What is answered, and what room and record then hold. "Refusals: table .., FIGURE as `build_for`, then ROOM, where the plan found does not fit":
-- where the table is accepted it is what `build_for` answers and writes for the set of columns that is found, in the room lent
pub data LikedInto (by : By) (cells goals list room room' liked liked' : List ℕ) (answer : Result BuiltPlan Refusal) : Type 0 where
  table-refused : (f : Refused) → table_by by cells ≡ refuse f → build_told answer ≡ turned f → room' ≡ room → liked' ≡ liked
      → LikedInto by cells goals list room room' liked liked' answer
  found : (T : Table) (mask total plain : ℕ) → table_by by cells ≡ read T → LikesBest by cells goals list T.width mask total plain
      → BuiltInto by (columns_of mask) cells room room' answer → liked' ≡ liked_after (build_told answer) mask total plain liked
      → LikedInto by cells goals list room room' liked liked' answer

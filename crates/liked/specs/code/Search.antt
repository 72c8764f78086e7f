-- What the search through the sets of columns has seen.
use Rattle.std.specs.Prelude.{ℕ, ◌^◌, ◌≤◌, ◌<◌, ◌≡◌, List, Result, Ok, Err}
use Rattle.refusal.specs.Refusal.{told}
use Rattle.refusal.specs.Read.{read, refuse}
use Rattle.refusal.specs.declared.Refusal.{Refusal}
use Rattle.table.specs.Table.{Table}
use Rattle.least.specs.Measures.{table_by}
use Rattle.least.specs.declared.By.{By}
use Rattle.builder.specs.Build.{table_for}
use Rattle.liked.specs.Liked.{columns_of, TriesFor}
use Rattle.limits.specs.Limits.{most_columns}

-- what a set of columns tries, or why no plan is built for it
pub data Totalled (by : By) (cells goals list : List ℕ) (mask : ℕ) (r : Result ℕ Refusal) : Type 0 where
  tried : (n : ℕ) → TriesFor by cells goals list mask n → r ≡ Ok n → Totalled by cells goals list mask r
  turned-away : (f : Refusal) → table_for by (columns_of mask) cells ≡ refuse (told f) → r ≡ Err f → Totalled by cells goals list mask r

-- an accepted table with so many sets of columns, and what the plain plan tries
pub record Plainly (by : By) (cells goals list : List ℕ) (sets plain : ℕ) : Type 0 where
  pub table : Table
  pub here : table_by by cells ≡ read table
  pub count : sets ≡ 2 ^ table.width
  pub narrow : (1 ≤ table.width) × (table.width ≤ most_columns)
  pub tries : TriesFor by cells goals list 0 plain

-- the best of the sets below `end`
pub record BestBelow (by : By) (cells goals list : List ℕ) (end mask total : ℕ) : Type 0 where
  pub set : mask < end
  pub tries : TriesFor by cells goals list mask total
  pub least : (other n : ℕ) → other < end → TriesFor by cells goals list other n → total ≤ n
  pub first : (other n : ℕ) → other < mask → TriesFor by cells goals list other n → total < n

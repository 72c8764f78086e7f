-- Which numbers the variables of rows and goals have while a walk unifies them, and a row under a skeleton.
use Rattle.std.specs.Prelude.{ℕ, ◌^◌, ◌≤◌, ◌<◌, ◌≡◌, true, length}
use mathlib.Core.List.{List, Memᴰ}
use Rattle.cell.specs.Cell.{is_var}
use Rattle.term.specs.Terms.{Terms}
use Rattle.table.specs.Table.{count}
use Rattle.answer.specs.Skeleton.{hole, fill}

-- the row's variables lie below 2^16, the goal's from there to n
pub record RowLike (xs : List ℕ) : Type 0 where
  pub low : (c : ℕ) → Memᴰ c xs → is_var c ≡ true → c < 2 ^ 16

pub record GoalLike (n : ℕ) (xs : List ℕ) : Type 0 where
  pub range : (c : ℕ) → Memᴰ c xs → is_var c ≡ true → (2 ^ 16 ≤ c) × (c < n)

-- A row under a skeleton: its open terms x.
pub record Loose (K x : List ℕ) : Type 0 where
  pub terms : Terms (count hole K) x
  pub low : (c : ℕ) → Memᴰ c (fill K x) → is_var c ≡ true → c < 2 ^ 15
  pub short : length x ≤ 2 ^ 15
  pub symbols : ¬ Memᴰ hole x

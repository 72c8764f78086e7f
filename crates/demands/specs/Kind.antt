-- W-213, "Columns that are always filled in": lists of columns, and the kind of plan that they ask for. What is said of the entries by them is in
-- specs/Demands (building) and in specs/Columns.
use Rattle.std.specs.Prelude.{ℕ, ◌≤◌, ◌<◌, ◌↔◌}
use mathlib.Core.List.{List, Memᴰ}
use Rattle.plan.specs.Plans.{Plan}
use Rattle.plan.specs.Named.{NamedFirst, flags_of}

-- "The caller names such columns": each number of the list is one of the rows' arguments,
abbrev pub There : (width : ℕ) (columns : List ℕ) → Type 0
There width columns = (column : ℕ) → Memᴰ column columns → column < width

-- or "COLUMN for a column not below the width"
pub record Missing (width : ℕ) (columns : List ℕ) : Type 0 where
  pub column : ℕ
  pub listed : Memᴰ column columns
  pub past : width ≤ column

-- The list is a set: two lists with the same numbers say the same
abbrev pub SameColumns : (columns others : List ℕ) → Type 0
SameColumns columns others = (column : ℕ) → Memᴰ column columns ↔ Memᴰ column others

-- "with no column named, or all of them"
pub data NoneOrAll (width : ℕ) (columns : List ℕ) : Type 0 where
  none_named : ((column : ℕ) → ¬ Memᴰ column columns) → NoneOrAll width columns
  all_named : ((column : ℕ) → column < width → Memᴰ column columns) → NoneOrAll width columns

-- "A plan of this kind chooses only places inside named columns while any of them is open" (crate plan, specs/Named)
abbrev pub OfKind : {width : ℕ} {rows : List (List ℕ)} (columns : List ℕ) → Plan width rows → Type 0
OfKind {width} columns tree = NamedFirst (flags_of width columns) tree

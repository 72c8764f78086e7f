-- What a run has of a plan that the check accepts for a table.
use Rattle.std.specs.Prelude.{ℕ, ◌≡◌, List, map, length, take}
use Rattle.refusal.specs.Read.{read}
use Rattle.table.specs.All.{All}
use Rattle.table.specs.Table.{Table, table_of, up_from, IsTable}
use Rattle.plan.specs.Plans.{Plan, write, branches}
use Rattle.plan.specs.Notes.{notes, word, BranchFits}

-- its number of branches, the table's width and number of rows; first in the array the number of each branch, whose parts fit
pub record ForRun (cells plan noted : List ℕ) (count width rows : ℕ) : Type 0 where
  pub table : Table
  pub reads : table_of cells ≡ read table
  pub is : IsTable cells table.width table.rows
  pub tree : Plan table.width table.rows
  pub writes : plan ≡ write tree
  pub number : count ≡ branches tree
  pub same_width : width ≡ table.width
  pub same_rows : rows ≡ length table.rows
  pub words : take count noted ≡ map word (notes tree (up_from 1 table.width) 32 0)
  pub fit : All BranchFits (notes tree (up_from 1 table.width) 32 0)

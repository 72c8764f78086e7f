-- What the listing's private functions ask and answer.
use Rattle.std.specs.Prelude.{ℕ, ◌+◌, ◌*◌, ◌≤◌, ◌≡◌, List, [], ◌++◌, length, get_or, drop}
use Rattle.refusal.specs.Read.{read}
use Rattle.octets.specs.Octets.{Put}
use Rattle.table.specs.Table.{Table, table_of}
use Rattle.plan.specs.Runs.{Run}
use Rattle.plan.specs.Plans.{Plan, leaf, node, Branches, end, next, write, branches, plain, cost}
use Rattle.plan.specs.Notes.{skip_in, row_noted}
use Rattle.least.specs.Least.{Built}
use Rattle.listing.specs.Listing.{lines_in, listing_of}
use Rattle.listing.specs.declared.walk.Stand.{Stand}
use Rattle.limits.specs.Limits.{most_branches, most_plan_cells, most_rows}

-- What is noted of each branch of a plan, in plan order from the number n on: its first row, the plan's being `row`, and how many branches are
-- below it.
unfoldable mutual
  pub Marked : {k : ℕ} {rows : List (List ℕ)} → Plan k rows → (noted : List ℕ) (n row : ℕ) → Type 0
  Marked leaf noted n row = Unit {0}
  Marked (node i h bs) noted n row = MarkedIn bs noted n row

  pub MarkedIn : {k : ℕ} {gs : List Run} → Branches k gs → (noted : List ℕ) (n row : ℕ) → Type 0
  MarkedIn end noted n row = Unit {0}
  MarkedIn (next {g = g} p bs) noted n row =
      (row_noted (get_or noted n 0) ≡ row) × (skip_in (get_or noted n 0) ≡ branches p) × Marked p noted (n + 1) row
      × MarkedIn bs noted (n + 1 + branches p) (row + length g.rows)

-- A state stands in the plan where the walk does, with its branches in what is noted: `places` open places, `depth` branches above it, its
-- rows from `first` to before `stop`. The last five bound the numbers: each branch takes a cell of the plan and opens at most 4 places
pub record Ready (plan noted : List ℕ) (places depth stop : ℕ) (from : Stand) : Type 0 where
  pub first : ℕ
  pub k : ℕ
  pub rows : List (List ℕ)
  pub tree : Plan k rows
  pub rest : List ℕ
  pub open-places : places ≡ k
  pub cells : drop from.at plan ≡ write tree ++ rest
  pub marked : Marked tree noted from.number first
  pub ends : first + length rows ≡ stop
  pub few : stop ≤ most_rows
  pub deep : depth ≤ from.at
  pub numbered : from.number + branches tree ≤ most_branches
  pub wide : places ≤ 4 * from.at + 8
  pub size : length plan ≤ most_plan_cells

-- the state's lines are put, and the walk stands after its cells and its branches
pub record Walked (old new : List ℕ) (depth first : ℕ) (from : Stand) {k : ℕ} {rows : List (List ℕ)} (tree : Plan k rows) (r : Stand) : Type 0 where
  pub puts : Put old new from.to (lines_in tree depth first) r.to
  pub past : r.at ≡ from.at + length (write tree)
  pub counted : r.number ≡ from.number + branches tree

abbrev pub Walks : (plan noted old new : List ℕ) (places depth stop : ℕ) (from r : Stand) → Type 0
Walks plan noted old new places depth stop from r =
    (w : Ready plan noted places depth stop from) → Walked old new depth w.first from w.tree r

-- the builder's plan of a table that is read, and what it costs
pub record Planned (t plan : List ℕ) (costs : ℕ) : Type 0 where
  pub table : Table
  pub tree : Plan table.width table.rows
  pub reads : table_of t ≡ read table
  pub built : Built plain [] tree
  pub cells : plan ≡ write tree
  pub costs-it : costs ≡ cost plain tree

-- its listing is put
abbrev pub PutsPlan : (t plan old new : List ℕ) (costs r : ℕ) → Type 0
PutsPlan t plan old new costs r = (w : Planned t plan costs) → Put old new 0 (listing_of w.table w.tree) r

-- 43,035 bytes are enough for any listing
abbrev pub most : ℕ
most = 43035

-- The reading of a plan's cells (01, "What is turned away": "A plan: 10, then left to right, 11 first at each place, 9 last").
-- It gives the number of branches of the plan that stands there, or the first refusal.
use Rattle.std.specs.Prelude.{ℕ, zero, suc, ◌+◌, Bool, not, List, [], ◌∷◌, eqb, leb, ltb, length}
use Rattle.cell.specs.Cell.{arity}
use Rattle.refusal.specs.Refusal.{Refused, refused}
use Rattle.refusal.specs.declared.Reason.{Reason}
use Rattle.refusal.specs.declared.Reason.TheVariants as reason
use Rattle.refusal.specs.declared.Input.TheVariants as input
use Rattle.refusal.specs.Read.{Read, read, refuse, when, and_then}
use Rattle.table.specs.Table.{Table, table_of}
use Rattle.plan.specs.Runs.{Run, runs}
use Rattle.plan.specs.Named.{spread, may, flags_of, any_past}
use Rattle.limits.specs.Limits.{most_plan_cells, most_row_cells}

-- a state that has been read: its branches, the place after it, and the cells after it
pub record Seen : Type 0 where
  pub branches : ℕ
  pub next : ℕ
  pub rest : List ℕ

abbrev pub seen : ℕ → ℕ → List ℕ → Seen
seen b p xs = record { branches = b; next = p; rest = xs }

-- a refusal of the plan
abbrev pub bad_plan : Reason → ℕ → Refused
bad_plan r p = refused r input.Plan p

-- one cell: ENDS where there is none, the given refusal where it fails the test, otherwise on with the cells after it
abbrev pub cell_then : {A : Type 0} → (ℕ → Bool) → Reason → ℕ → (ℕ → List ℕ → Read A) → List ℕ → Read A
cell_then ok n p f [] = refuse (bad_plan reason.Ends p)
cell_then ok n p f (c ∷ xs) = when (not (ok c)) (bad_plan n p) (f c xs)

-- how a state is read: the flags of its open places (02, W-213; none where no column is named), k open places, its rows, the place, the cells
-- from there on
abbrev pub Reader : Type 0
Reader = List Bool → ℕ → List (List ℕ) → ℕ → List ℕ → Read Seen

-- the branches of some runs at open place i, one after another: LABEL, then the state below, then the others
abbrev pub branches_from : Reader → List Bool → ℕ → ℕ → List Run → ℕ → List ℕ → Read Seen
branches_from below named i k [] p xs = read (seen 0 p xs)
branches_from below named i places (run ∷ more) place cells =
    cell_then (λ c. eqb c run.cell) reason.Label place (λ c after.
    and_then (below (spread i (arity run.cell) named) (arity run.cell + places) run.rows (suc place) after) (λ (state : Seen).
    and_then (branches_from below named i places more state.next state.rest) (λ (others : Seen).
    read (seen (suc (state.branches + others.branches)) others.next others.rest)))) cells

-- a leaf: ROWS
abbrev pub leaf_from : List (List ℕ) → ℕ → List ℕ → Read Seen
leaf_from rows p xs = cell_then (λ c. eqb c (length rows)) reason.Rows p (λ c ys. read (seen 0 (suc p) ys)) xs

-- an inner state with k + 1 open places: OPEN; EARLY "at an index outside the named columns while a place inside them is open, after OPEN"
-- (W-213); EDGES, the branches
abbrev pub node_from : Reader → List Bool → ℕ → List (List ℕ) → ℕ → List ℕ → Read Seen
node_from below named places rows place cells =
    cell_then (λ c. leb c places) reason.Open place (λ index after.
    when (not (may named index)) (bad_plan reason.Early place) (
    cell_then (λ c. eqb c (length (runs index rows))) reason.Edges (suc place) (λ count rest.
    branches_from below named index places (runs index rows) (suc (suc place)) rest) after)) cells

-- a state. The first number bounds the depth and never decides: a row of n cells is looked at n times at most
unfoldable pub state_from : ℕ → Reader
state_from zero named zero rows p xs = leaf_from rows p xs
state_from zero named (suc k) rows p xs = refuse (bad_plan reason.Ends p)
state_from (suc n) named zero rows p xs = leaf_from rows p xs
state_from (suc n) named (suc k) rows p xs = node_from (λ fs j rs q ys. state_from n fs j rs q ys) named k rows p xs

-- 01, EXTRA: "cells after the last row, goal or plan", at the first such
abbrev pub nothing_after : Seen → Read ℕ
nothing_after s = when (ltb 0 (length s.rest)) (bad_plan reason.Extra s.next) (read s.branches)

-- a plan for a table that is read, of the kind that looks into the columns first for which a flag stands: SIZE, the first state, EXTRA. A row
-- has at most 32 cells
unfoldable pub plan_with : List Bool → Table → List ℕ → Read ℕ
plan_with named T p = when (ltb most_plan_cells (length p)) (bad_plan reason.Size 0) (and_then (state_from most_row_cells named T.width T.rows 0 p) nothing_after)

-- any plan: no column is named
abbrev pub plan_for : Table → List ℕ → Read ℕ
plan_for T p = plan_with [] T p

-- 01, "Checking takes the table, then the plan"
abbrev pub plan_of : List ℕ → List ℕ → Read ℕ
plan_of t p = and_then (table_of t) (λ (T : Table). plan_for T p)

-- 02, W-213, "The caller names such columns": COLUMN, at place 0 as 01 has it where a request names none; otherwise the flags of the row's
-- arguments
abbrev pub columns_for : Table → List ℕ → Read (List Bool)
columns_for T columns = when (any_past T.width columns) (refused reason.Column input.Columns 0) (read (flags_of T.width columns))

-- "the check for this kind": COLUMN "after the table's and before the plan's". With no column named it is any plan's (proofs/ColumnsLaws)
abbrev pub plan_under : (t columns p : List ℕ) → Read ℕ
plan_under t columns p = and_then (table_of t) (λ (T : Table). and_then (columns_for T columns) (λ (named : List Bool). plan_with named T p))

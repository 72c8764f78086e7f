-- Examples of named columns (02, W-213), by computation: for the columns named, the cells of the builder's plan by 01's measure, and what
-- plans of the kind cost at least (`least-later`), by that measure and by the work with figures 0, 2 and 15.
use Prim.Native.Nat.{ℕ, ◌+◌}
use mathlib.Core.Path.{◌≡◌, refl}
use mathlib.Core.Bool.{Bool}
use mathlib.Core.List.{List, [], ◌∷◌, map}
use Rattle.cell.specs.Cell.{name_cell, values_at, arity, is_var}
use Rattle.term.specs.Terms.{root, close}
use Rattle.table.specs.Table.{Table, table, count}
use Rattle.plan.specs.Runs.{agree}
use Rattle.plan.specs.Plans.{Measure, plain}
use Rattle.plan.specs.Named.{set_flags, flags_of}
use Rattle.least.specs.code.Best.{argmin, total, best}
use Rattle.least.specs.Later.{later_in, laters_in}
use Rattle.least.specs.Measures.{work_of, work}
use Rattle.least.proofs.Builder.{place, run_cells, plan_cells}

abbrev a : ℕ
a = name_cell 0 1

abbrev b : ℕ
b = name_cell 0 2

abbrev c : ℕ
c = name_cell 0 3

abbrev d : ℕ
d = name_cell 0 4

abbrev f1 : ℕ
f1 = name_cell 1 5

pub record Case : Type 0 where
  pub columns : List ℕ
  pub rows : Table

pub record Says : Type 0 where
  pub costs : List ℕ
  pub plan : List ℕ

abbrev pub case : Table → List ℕ → Case
case T cs = record { columns = cs; rows = T }

abbrev pub says : ℕ → ℕ → ℕ → ℕ → List ℕ → Says
says n x y z p = record { costs = n ∷ x ∷ y ∷ z ∷ []; plan = p }

abbrev flags : Case → List Bool
flags x = flags_of x.rows.width x.columns

abbrev plan_by : Measure → Case → List ℕ
plan_by m x = plan_cells m 8 (flags x) x.rows.width x.rows.rows

abbrev cost_by : Measure → Case → ℕ
cost_by m x = best m 8 (flags x) x.rows.width x.rows.rows + laters_in m [] x.rows.rows

abbrev square : Table
square = table 2 ((a ∷ c ∷ []) ∷ (b ∷ c ∷ []) ∷ (a ∷ d ∷ []) ∷ (b ∷ d ∷ []) ∷ [])

abbrev shared : Table
shared = table 2 ((a ∷ b ∷ []) ∷ (b ∷ b ∷ []) ∷ (c ∷ b ∷ []) ∷ [])

abbrev inner : Table
inner = table 2 ((a ∷ f1 ∷ a ∷ []) ∷ (b ∷ f1 ∷ a ∷ []) ∷ (b ∷ f1 ∷ b ∷ []) ∷ [])

abbrev three : Table
three = table 3 ((a ∷ b ∷ c ∷ []) ∷ (a ∷ c ∷ c ∷ []) ∷ (b ∷ b ∷ d ∷ []) ∷ [])

-- the order of the list and repeats do not matter
unfoldable pub cases : List Case
cases = case square [] ∷ case square (0 ∷ []) ∷ case square (1 ∷ []) ∷ case square (1 ∷ 0 ∷ 1 ∷ [])
    ∷ case shared [] ∷ case shared (0 ∷ []) ∷ case shared (1 ∷ [])
    ∷ case inner [] ∷ case inner (0 ∷ []) ∷ case inner (1 ∷ [])
    ∷ case three (2 ∷ 0 ∷ []) ∷ case three (1 ∷ []) ∷ []

abbrev by_first : List ℕ
by_first = 0 ∷ 4 ∷ a ∷ 0 ∷ 1 ∷ c ∷ 1 ∷ b ∷ 0 ∷ 1 ∷ c ∷ 1 ∷ a ∷ 0 ∷ 1 ∷ d ∷ 1 ∷ b ∷ 0 ∷ 1 ∷ d ∷ 1 ∷ []

abbrev by-second : List ℕ
by-second = 1 ∷ 2 ∷ c ∷ 0 ∷ 2 ∷ a ∷ 1 ∷ b ∷ 1 ∷ d ∷ 0 ∷ 2 ∷ a ∷ 1 ∷ b ∷ 1 ∷ []

abbrev agreed-first : List ℕ
agreed-first = 1 ∷ 1 ∷ b ∷ 0 ∷ 3 ∷ a ∷ 1 ∷ b ∷ 1 ∷ c ∷ 1 ∷ []

unfoldable pub answers : List Says
answers = says 6 6 10 23 by-second ∷ says 8 8 10 23 by_first ∷ says 6 6 12 51 by-second ∷ says 6 6 10 23 by-second
    ∷ says 4 4 6 19 agreed-first ∷ says 6 6 8 21 (0 ∷ 3 ∷ a ∷ 0 ∷ 1 ∷ b ∷ 1 ∷ b ∷ 0 ∷ 1 ∷ b ∷ 1 ∷ c ∷ 0 ∷ 1 ∷ b ∷ 1 ∷ []) ∷ says 4 4 6 19 agreed-first
    ∷ says 6 7 11 37 (1 ∷ 1 ∷ f1 ∷ 0 ∷ 2 ∷ a ∷ 0 ∷ 1 ∷ a ∷ 1 ∷ b ∷ 0 ∷ 2 ∷ a ∷ 1 ∷ b ∷ 1 ∷ [])
    ∷ says 7 9 13 39 (0 ∷ 2 ∷ a ∷ 0 ∷ 1 ∷ f1 ∷ 0 ∷ 1 ∷ a ∷ 1 ∷ b ∷ 0 ∷ 1 ∷ f1 ∷ 0 ∷ 2 ∷ a ∷ 1 ∷ b ∷ 1 ∷ [])
    ∷ says 6 7 11 37 (1 ∷ 1 ∷ f1 ∷ 1 ∷ 2 ∷ a ∷ 0 ∷ 2 ∷ a ∷ 1 ∷ b ∷ 1 ∷ b ∷ 0 ∷ 1 ∷ b ∷ 1 ∷ [])
    ∷ says 7 7 11 37 (0 ∷ 2 ∷ a ∷ 1 ∷ 1 ∷ c ∷ 0 ∷ 2 ∷ b ∷ 1 ∷ c ∷ 1 ∷ b ∷ 1 ∷ 1 ∷ d ∷ 0 ∷ 1 ∷ b ∷ 1 ∷ [])
    ∷ says 9 9 11 24 (1 ∷ 3 ∷ b ∷ 0 ∷ 1 ∷ a ∷ 0 ∷ 1 ∷ c ∷ 1 ∷ c ∷ 0 ∷ 1 ∷ a ∷ 0 ∷ 1 ∷ c ∷ 1 ∷ b ∷ 0 ∷ 1 ∷ b ∷ 0 ∷ 1 ∷ d ∷ 1 ∷ []) ∷ []

pub computed : map (λ (x : Case). says (cost_by plain x) (cost_by (work 0) x) (cost_by (work 2) x) (cost_by (work 15) x) (plan_by plain x)) cases ≡ answers
unfolding cases answers set_flags work_of later_in count plan_cells place run_cells best total argmin root close agree arity values_at is_var
computed = refl

-- with none named, from figure 2 on one state with four branches costs less than three with two
pub by-figure : map (λ (m : Measure). plan_by m (case square [])) (work 0 ∷ work 2 ∷ work 15 ∷ []) ≡ by-second ∷ by_first ∷ by_first ∷ []
unfolding set_flags work_of plan_cells place run_cells best total argmin root close agree arity values_at is_var
by-figure = refl

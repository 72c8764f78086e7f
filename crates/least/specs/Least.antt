-- The least plan (01, "The least plan"), over a measure of cost; 01's own measure is `plain`. `named` says for each open place whether it is
-- inside a named column (02, W-213); where no column is named it is empty, and 01's words are all that is asked.
use Rattle.std.specs.Prelude.{ℕ, suc, ◌≤◌, ◌<◌, ◌≡◌, Bool, false, ◌⊎◌, List, [], length}
use Rattle.cell.specs.Cell.{arity, is_var}
use Rattle.term.specs.Terms.{root}
use Rattle.table.specs.All.{All}
use Rattle.plan.specs.Runs.{Run}
use Rattle.plan.specs.Plans.{Plan, leaf, node, Branches, end, next, Measure}
use Rattle.plan.specs.Named.{spread, May, NamedFirst}
use Rattle.least.specs.Measures.{cost_from}

-- 01, an open place "agreed by all the state's rows (a single row agrees with itself everywhere)": all hold this cell there,
-- a name or a number, or there is a single row
pub record Agree (place cell : ℕ) (rows : List (List ℕ)) : Type 0 where
  pub cells : All (λ (r : List ℕ). root place r ≡ cell) rows
  pub fixed : (is_var cell ≡ false) ⊎ (length rows ≤ 1)
  pub some : 0 < length rows

-- none of the first k open places that may be chosen is agreed
abbrev pub Stuck : List Bool → ℕ → List (List ℕ) → Type 0
Stuck named k rows = (i c : ℕ) → i < k → Agree i c rows → May named i → ⊥

-- A state's least cost: a plan of the kind that costs so much, and that none of the kind costs less. It is counted from the state, with no
-- cell met: above a state with two or more rows only names and numbers are met, and what stands below a variable's branch has one row, for
-- which the rule asks no cost
pub record Least (measure : Measure) (named : List Bool) (opens : ℕ) (rows : List (List ℕ)) (count : ℕ) : Type 0 where
  pub plan : Plan opens rows
  pub kind : NamedFirst named plan
  pub costs-it : cost_from measure [] plan ≡ count
  pub none-less : (q : Plan opens rows) → NamedFirst named q → count ≤ cost_from measure [] q

-- the place that a plan looks at first
abbrev pub first : {k : ℕ} {rows : List (List ℕ)} → Plan k rows → ℕ
first leaf = 0
first (node i h bs) = i

-- 01, "The builder's plan is fixed": the place that is taken at a state with one open place and so many others
pub data Chosen (measure : Measure) (named : List Bool) (others : ℕ) (rows : List (List ℕ)) (place : ℕ) : Type 0 where
  -- "where some open place is agreed by all the state's rows, it takes the leftmost such"
  shared : (c : ℕ) → Agree place c rows → May named place → Stuck named place rows → Chosen measure named others rows place
  -- "otherwise, among the open places whose best plan, counted from this state with its own branches, costs least, the leftmost":
  -- a least plan of the state looks there first, and each plan that first looks at a place left of it costs more
  cheapest : {count : ℕ} → Stuck named (suc others) rows → (best : Least measure named (suc others) rows count) → first best.plan ≡ place
      → ((q : Plan (suc others) rows) → NamedFirst named q → first q < place → count < cost_from measure [] q) → Chosen measure named others rows place

-- The builder's plan: at each of its states the place is the one so chosen. So it is of a plan, and of each of some branches
unfoldable mutual
  pub Built : Measure → List Bool → {k : ℕ} {rows : List (List ℕ)} → Plan k rows → Type 0
  Built m named leaf = Unit {0}
  Built m named (node {k} {rows} i h bs) = Chosen m named k rows i × Builts m named i bs

  pub Builts : Measure → List Bool → ℕ → {k : ℕ} {gs : List Run} → Branches k gs → Type 0
  Builts m named i end = Unit {0}
  Builts m named i (next {g = g} p bs) = Built m (spread i (arity g.cell) named) p × Builts m named i bs

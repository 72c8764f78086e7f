-- Plans as trees that are valid by construction (01, "Plans"; document 001, definitions 2.1 to 2.4 and 3.1), what they write, and what they
-- cost.
use Rattle.std.specs.Prelude.{ℕ, suc, ◌+◌, ◌≤◌, ◌≡◌, cond, List, [], ◌∷◌, ◌++◌, leb, length}
use Rattle.cell.specs.Cell.{arity}
use Rattle.plan.specs.Runs.{Run, runs}

-- 01, "A state has a run of neighbouring rows and a list of open places": a plan for a state with k open places and these rows.
-- "A state with no open place is a leaf"; at any other "one of them is chosen", by its index i from 0.
-- Below a branch "that place is closed and, for a name with arguments, replaced in the list by its argument places"
mutual
  pub data Plan : ℕ → List (List ℕ) → Type 0 where
    leaf : {rows : List (List ℕ)} → Plan 0 rows
    node : {k : ℕ} {rows : List (List ℕ)} (i : ℕ) → i ≤ k → Branches k (runs i rows) → Plan (suc k) rows

  pub data Branches : ℕ → List Run → Type 0 where
    end : {k : ℕ} → Branches k []
    next : {k : ℕ} {g : Run} {gs : List Run} → Plan (arity g.cell + k) g.rows → Branches k gs → Branches k (g ∷ gs)

-- 01, "As cells, a plan is written state by state, parents first: an inner state is the open place's index from 0, the number of branches,
-- then for each branch its symbol's cell and the state below. A leaf is one cell, its number of rows."
unfoldable mutual
  pub write : {k : ℕ} {rows : List (List ℕ)} → Plan k rows → List ℕ
  write (leaf {rows}) = length rows ∷ []
  write (node {rows = rows} i h bs) = i ∷ (length (runs i rows) ∷ writes bs)

  pub writes : {k : ℕ} {gs : List Run} → Branches k gs → List ℕ
  writes end = []
  writes (next {g = g} p bs) = g.cell ∷ (write p ++ writes bs)

-- 01, "A plan with B branches and L leaves": its number of branches
unfoldable mutual
  pub branches : {k : ℕ} {rows : List (List ℕ)} → Plan k rows → ℕ
  branches leaf = 0
  branches (node i h bs) = branches_in bs

  pub branches_in : {k : ℕ} {gs : List Run} → Branches k gs → ℕ
  branches_in end = 0
  branches_in (next p bs) = suc (branches p + branches_in bs)

-- and its number of leaves
unfoldable mutual
  pub leaves : {k : ℕ} {rows : List (List ℕ)} → Plan k rows → ℕ
  leaves leaf = 1
  leaves (node i h bs) = leaves_in bs

  pub leaves_in : {k : ℕ} {gs : List Run} → Branches k gs → ℕ
  leaves_in end = 0
  leaves_in (next p bs) = leaves p + leaves_in bs

-- 02, W-208, "a leaf has exactly one row": each leaf of a plan
unfoldable mutual
  pub OneRow : {k : ℕ} {rows : List (List ℕ)} → Plan k rows → Type 0
  OneRow (leaf {rows}) = length rows ≡ 1
  OneRow (node i h bs) = OneRows bs

  pub OneRows : {k : ℕ} {gs : List Run} → Branches k gs → Type 0
  OneRows end = Unit {0}
  OneRows (next p bs) = OneRow p × OneRows bs

-- What a plan costs, by a measure: a weight for a branch's cell, and a figure for a state with two or more branches.
pub record Measure : Type 0 where
  pub weight : ℕ → ℕ
  pub figure : ℕ

-- 01, "A plan's cost is its number of branches": weight 1 and figure 0
abbrev pub plain : Measure
plain = record { weight = λ c. 1; figure = 0 }

-- what a state with n branches adds by itself
abbrev pub choice : Measure → ℕ → ℕ
choice m n = cond (leb 2 n) m.figure 0

unfoldable mutual
  pub cost : Measure → {k : ℕ} {rows : List (List ℕ)} → Plan k rows → ℕ
  cost m leaf = 0
  cost m (node {rows = rows} i h bs) = choice m (length (runs i rows)) + costs m bs

  pub costs : Measure → {k : ℕ} {gs : List Run} → Branches k gs → ℕ
  costs m end = 0
  costs m (next {g = g} p bs) = m.weight g.cell + (cost m p + costs m bs)

-- Columns that are always filled in (02, W-213; document 001, section 5, modes): for each open place whether it is inside a named column,
-- and the plans that look into named columns first. With no column named every plan is one (proofs/NamedLaws).
use Rattle.std.specs.Prelude.{ℕ, zero, suc, ◌≡◌, Bool, true, false, not, ◌||◌, List, [], ◌∷◌, ◌++◌, eqb, leb, get_or, replicate}
use Rattle.cell.specs.Cell.{arity}
use Rattle.plan.specs.Runs.{Run}
use Rattle.plan.specs.Plans.{Plan, leaf, node, Branches, end, next}

-- the flag of open place i: whether it is inside a named column. Places past the list are in none
abbrev pub flag : ℕ → List Bool → Bool
flag i named = get_or named i false

-- the flags of the open places below a branch at place i, whose cell has a arguments: each argument is inside the column of its place
abbrev pub spread : (i a : ℕ) → List Bool → List Bool
spread i a [] = []
spread zero a (f ∷ fs) = replicate a f ++ fs
spread (suc i) a (f ∷ fs) = f ∷ spread i a fs

-- "chooses only places inside named columns while any of them is open": place i may be chosen
pub data May (named : List Bool) (i : ℕ) : Type 0 where
  inside : flag i named ≡ true → May named i
  freely : ((j : ℕ) → flag j named ≡ false) → May named i

-- the same as a test
abbrev pub any_named : List Bool → Bool
any_named [] = false
any_named (f ∷ fs) = f || any_named fs

abbrev pub may : List Bool → ℕ → Bool
may named i = flag i named || not (any_named named)

-- "A plan of this kind": at each of its states the place may be chosen. So it is of a plan, and of each of some branches at a place
unfoldable mutual
  pub NamedFirst : List Bool → {k : ℕ} {rows : List (List ℕ)} → Plan k rows → Type 0
  NamedFirst named leaf = Unit {0}
  NamedFirst named (node i h bs) = May named i × NamedFirsts named i bs

  pub NamedFirsts : List Bool → ℕ → {k : ℕ} {gs : List Run} → Branches k gs → Type 0
  NamedFirsts named i end = Unit {0}
  NamedFirsts named i (next {g = g} p bs) = NamedFirst (spread i (arity g.cell) named) p × NamedFirsts named i bs

-- "The caller names such columns": each number of the list sets its argument's flag; one that is not below the width sets none
abbrev pub set_flag : ℕ → List Bool → List Bool
set_flag c [] = []
set_flag zero (f ∷ fs) = true ∷ fs
set_flag (suc c) (f ∷ fs) = f ∷ set_flag c fs

unfoldable pub set_flags : List ℕ → List Bool → List Bool
set_flags [] fs = fs
set_flags (c ∷ columns) fs = set_flags columns (set_flag c fs)

abbrev pub flags_of : (width : ℕ) (columns : List ℕ) → List Bool
flags_of width columns = set_flags columns (replicate width false)

-- "COLUMN for a column not below the width": some number of the list is not
abbrev pub any_past : (width : ℕ) (columns : List ℕ) → Bool
any_past width [] = false
any_past width (c ∷ columns) = leb width c || any_past width columns

-- a number occurs in the list: what the list names, whatever its order and however often (proofs/ColumnsLaws)
abbrev pub occurs : (c : ℕ) (columns : List ℕ) → Bool
occurs c [] = false
occurs c (d ∷ columns) = eqb c d || occurs c columns

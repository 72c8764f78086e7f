-- Terms at nodes: finite ones, written out, and what a node is.
use Rattle.std.specs.Prelude.{ℕ, ◌≤◌, ◌<◌, ◌≡◌, ◌≢◌, true, List, [], ◌∷◌, ◌++◌}
use Rattle.cell.specs.Cell.{is_var}
use Rattle.table.specs.All.{All}
use Rattle.classes.specs.code.Nodes.{Nodes, owns, at}

-- FINITE TERMS. The term at a node is finite: what stands for it has no symbol, or finite arguments.
mutual
  pub data Fin (N : Nodes) (rep : List ℕ) : ℕ → Type 0 where
    bare : {r : ℕ} → N.head (at rep r) ≡ 0 → Fin N rep r
    over : {r : ℕ} → N.head (at rep r) ≢ 0 → FinAll N rep (N.kids (at rep r)) → Fin N rep r

  pub data FinAll (N : Nodes) (rep : List ℕ) : List ℕ → Type 0 where
    no_more : FinAll N rep []
    and-more : {r : ℕ} {rs : List ℕ} → Fin N rep r → FinAll N rep rs → FinAll N rep (r ∷ rs)

-- written out
unfoldable mutual
  pub image : {N : Nodes} {rep : List ℕ} {r : ℕ} → Fin N rep r → List ℕ
  image {N} {rep} (bare {r} z) = N.own (at rep r)
  image {N} {rep} (over {r} z k) = N.head (at rep r) ∷ images k

  pub images : {N : Nodes} {rep rs : List ℕ} → FinAll N rep rs → List ℕ
  images no_more = []
  images (and-more t ts) = image t ++ images ts

-- What a node is: a cell with its arguments as they stand in the goal, or a variable, whose cell has a node in the same class
pub data Sort (N : Nodes) (rep : List ℕ) (node : ℕ → ℕ) (r : ℕ) : Type 0 where
  literal : N.head r ≢ 0 → N.own r ≡ N.head r ∷ owns N (N.kids r) → Sort N rep node r
  variable : (v : ℕ) → is_var v ≡ true → N.own r ≡ v ∷ [] → at rep r ≡ at rep (node v) → Sort N rep node r

-- there are n nodes: each is one of these, and so are its arguments and what stands for it; a number from n on is none, and stands for itself
pub record Within (N : Nodes) (rep : List ℕ) (node : ℕ → ℕ) (n : ℕ) : Type 0 where
  pub sorts : (r : ℕ) → r < n → Sort N rep node r
  pub kids-in : (r : ℕ) → r < n → N.head r ≢ 0 → All (λ (s : ℕ). s < n) (N.kids r)
  pub rep_in : (r : ℕ) → r < n → at rep r < n
  pub out : (r : ℕ) → n ≤ r → (at rep r ≡ r) × (N.head r ≡ 0)

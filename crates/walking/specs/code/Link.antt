-- The walk's nodes and what is left of the goal that they stand for. A node below 32 is a cell of the goal, from 32 on an argument made on
-- the way. The link is a substitution: the bindings one after another, in the order in which they were made. These definitions describe the
-- code's own state; no promise of a public function cites them.
use Rattle.std.specs.Prelude.{ℕ, zero, suc, ◌+◌, ◌≤◌, ◌<◌, ◌≡◌, false, cond, List, [], ◌∷◌, ◌++◌, map, leb, length, get_or, drop}
use Rattle.cell.specs.Cell.{arity, is_var}
use Rattle.term.specs.Terms.{front}
use Rattle.term.specs.Unify.{inst, Subst}
use Rattle.table.specs.All.{All}
use Rattle.answer.specs.code.Renamed.{var}

-- what a node stands for: from 32 on a variable, below that a cell of the goal with the term that begins there
unfoldable pub ref : (goal : List ℕ) → ℕ → List ℕ
ref G r = cond (leb 32 r) (var r ∷ []) (front 1 (drop r G))

unfoldable pub refs : (goal : List ℕ) → List ℕ → List ℕ
refs G [] = []
refs G (r ∷ rs) = ref G r ++ refs G rs

-- a steps from p on, by a table that has for each number the next: where as many terms begin that stand one after another
unfoldable pub steps : (sib : List ℕ) → ℕ → ℕ → List ℕ
steps sib zero p = []
steps sib (suc a) p = p ∷ steps sib a (get_or sib p 0)

-- what a table has at some numbers
abbrev pub entries : (table : List ℕ) → List ℕ → List ℕ
entries table xs = map (λ (x : ℕ). get_or table x 0) xs

-- the nodes of a terms, the first of which begins at p
abbrev pub goal_nodes : (rep sib : List ℕ) → ℕ → ℕ → List ℕ
goal_nodes rep sib a p = entries rep (steps sib a p)

-- a node that stands for its term: a cell of the goal that no other cell is named instead of, or an argument made so far
pub data Node (G rep : List ℕ) (m : ℕ) : ℕ → Type 0 where
  cell : {r : ℕ} → r < length G → get_or rep r 0 ≡ r → Node G rep m r
  made : {r : ℕ} → 32 ≤ r → r < m → Node G rep m r

pub data GoalNodes (G rep : List ℕ) (m : ℕ) : List ℕ → Type 0 where
  nil : GoalNodes G rep m []
  cons : {r : ℕ} {rs : List ℕ} → Node G rep m r → GoalNodes G rep m rs → GoalNodes G rep m (r ∷ rs)

-- the goal's tables: the place after each cell's term, and the node that stands for it; for an argument the next number, and for all that
-- is no cell of the goal itself
pub record Tables (G sib rep : List ℕ) : Type 0 where
  pub sibs : (p : ℕ) → p < length G → get_or sib p 0 ≡ p + length (front 1 (drop p G))
  pub up : (r : ℕ) → 32 ≤ r → r < 64 → (get_or sib r 0 ≡ r + 1) × (get_or rep r 0 ≡ r)
  pub size : length rep ≡ 64
  pub others : (r : ℕ) → length G ≤ r → r < 64 → get_or rep r 0 ≡ r
  pub inside : (p : ℕ) → p < length G → get_or rep p 0 < length G
  pub kept : (p : ℕ) → p < length G → get_or rep (get_or rep p 0) 0 ≡ get_or rep p 0
  pub same : (p : ℕ) → p < length G → ref G (get_or rep p 0) ≡ ref G p
  pub vars : (r x : ℕ) → x < 64 → r < length G → ref G r ≡ var x ∷ [] → x < 32
  pub one : (r s x : ℕ) → x < 64 → r < length G → s < length G → get_or rep r 0 ≡ r → get_or rep s 0 ≡ s → ref G r ≡ var x ∷ [] → ref G s ≡ var x ∷ []
      → r ≡ s

-- what a node is, for the branches from n to e: bound to a symbol all along, or unbound all along
pub data Is (G rep sib bound args until : List ℕ) (n e m : ℕ) (Θ : ℕ → List ℕ) (r : ℕ) : Type 0 where
  held : e ≤ get_or until r 0 → is_var (get_or bound r 0) ≡ false
      → inst Θ (ref G r) ≡ get_or bound r 0 ∷ inst Θ (refs G (goal_nodes rep sib (arity (get_or bound r 0)) (get_or args r 0)))
      → GoalNodes G rep m (goal_nodes rep sib (arity (get_or bound r 0)) (get_or args r 0))
      → All (λ x. x < 64) (steps sib (arity (get_or bound r 0)) (get_or args r 0)) → Is G rep sib bound args until n e m Θ r
  free : (x : ℕ) → x < 64 → get_or until r 0 ≤ n → ref G r ≡ var x ∷ [] → Θ (var x) ≡ var x ∷ [] → Is G rep sib bound args until n e m Θ r

-- the bindings and the substitution Θ; nodes from m on are not made yet, and what is no node is not bound
pub record Bound (G rep sib bound args until : List ℕ) (n e m : ℕ) (Θ : ℕ → List ℕ) : Type 0 where
  pub good : Subst Θ
  pub is : (r : ℕ) → Node G rep m r → Is G rep sib bound args until n e m Θ r
  pub fresh : (u : ℕ) → m ≤ u → Θ (var u) ≡ var u ∷ []
  pub later : (r : ℕ) → (Node G rep m r → ⊥) → get_or until r 0 ≤ n

-- R is left of the goal for the branches from n to e: what the references in the slots stand for, under the bindings
pub record Linked (G rep sib bound args until refers : List ℕ) (n e m : ℕ) (slots R : List ℕ) : Type 0 where
  pub by : ℕ → List ℕ
  pub binds : Bound G rep sib bound args until n e m by
  pub slots-made : All (λ s. s < m) slots
  pub stand : GoalNodes G rep m (entries refers slots)
  pub same : R ≡ inst by (refs G (entries refers slots))
  pub some : 32 ≤ m
  pub few : m < 64

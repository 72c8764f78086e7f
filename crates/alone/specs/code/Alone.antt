-- One row by itself, from its first branch for a variable on (02, W-209): its nodes, the variables met, and what they mean. These definitions
-- describe the code's own state; no promise of a public function cites them.
use Rattle.std.specs.Prelude.{ℕ, suc, ◌+◌, ◌-◌, ◌≤◌, ◌<◌, ◌≡◌, ◌≢◌, ◌↔◌, Bool, true, false, cond, ltb, length, get_or}
use mathlib.Core.List.{List, [], ◌∷◌, ◌++◌, Memᴰ}
use Rattle.cell.specs.Cell.{arity}
use Rattle.term.specs.Terms.{Terms, root, close}
use Rattle.term.specs.Unify.{Unifies}
use Rattle.term.specs.code.Fresh.{Fresh}
use Rattle.table.specs.All.{All}
use Rattle.table.specs.Table.{count}
use Rattle.answer.specs.Skeleton.{hole, fill, decide, opened}
use Rattle.answer.specs.Run.{Counts}
use Rattle.answer.specs.code.Renamed.{var}
use Rattle.answer.specs.code.Loose.{RowLike}
use Rattle.answer.specs.code.Loose.{Loose}
use Rattle.walking.specs.code.Link.{steps, entries}
use Rattle.classes.specs.code.Nodes.{Nodes, at, Fair, Closed}
use Rattle.classes.specs.code.Finite.{Fin, Within}
use Rattle.classes.specs.code.Agrees.{Agrees}
use Rattle.classes.specs.code.Arrays.{nodes, Ready}

-- every node is a variable of its own; what is no node is the 65th
abbrev pub own : ℕ → List ℕ
own r = var (cond (ltb r 64) r 64) ∷ []

-- the nodes of some arrays: the symbols, where their arguments begin, and the next of them
abbrev pub graph : (bs ns sib : List ℕ) → Nodes
graph bs ns sib = nodes own bs ns sib

-- the node of a variable
abbrev pub node_of : ℕ → ℕ
node_of v = v - var 0

-- the nodes are in order, and those from m on are new
pub record Steady (sib bs ns cls : List ℕ) (m : ℕ) : Type 0 where
  pub ready : Ready bs ns sib cls
  pub fair : Fair (graph bs ns sib)
  pub closed : Closed (graph bs ns sib) cls
  pub finite : (r : ℕ) → Fin (graph bs ns sib) cls r
  pub within : Within (graph bs ns sib) cls node_of 64
  pub bare : (r : ℕ) → m ≤ r → get_or bs r 0 ≡ 0
  pub selves : (r : ℕ) → m ≤ at cls r → at cls r ≡ r
  pub fixed : (r : ℕ) → m ≤ r → at cls r ≡ r
  pub kids-low : (r : ℕ) → get_or bs r 0 ≢ 0 → All (λ (s : ℕ). s < m) (steps sib (arity (get_or bs r 0)) (get_or ns r 0))
  pub some : 32 ≤ m
  pub few : m ≤ 64
  pub size-bound : length bs ≡ 64
  pub size-args : length ns ≡ 64
  pub next : (r : ℕ) → 32 ≤ r → r < 64 → get_or sib r 0 ≡ r + 1

-- v is kept with the node w, in lists of variables and of nodes
pub data Pair (v w : ℕ) : List ℕ → List ℕ → Type 0 where
  here : {vs us : List ℕ} → Pair v w (v ∷ vs) (w ∷ us)
  there : {x y : ℕ} {vs us : List ℕ} → Pair v w vs us → Pair v w (x ∷ vs) (y ∷ us)

-- the array has for each of the row's variables the node that it met first, and 64 where it is not met
pub record Keeps (keep vs us : List ℕ) : Type 0 where
  pub none : (v : ℕ) → v < 32 → get_or keep v 0 ≡ 64 → ¬ Memᴰ v vs
  pub some : (v : ℕ) → v < 32 → get_or keep v 0 ≢ 64 → Pair v (get_or keep v 0) vs us
  pub size : length keep ≡ 32

-- At a state of the row: X at its k open places, K being decided above it, is what the row has there. That it unifies with R is that the
-- variables met, then X, agree with the nodes that they met first, then those at the open places
pub record Standing (R sib bs ns cls rs keep slots K : List ℕ) (m k : ℕ) : Type 0 where
  pub steady : Steady sib bs ns cls m
  pub vs : List ℕ
  pub us : List ℕ
  pub keeps : Keeps keep vs us
  pub distinct : Fresh (length us) vs
  pub low : All (λ (v : ℕ). v < 32) vs
  pub met : All (λ (u : ℕ). u < m) us
  pub made : All (λ (s : ℕ). s < m) slots
  pub stand : All (λ (r : ℕ). r < m) (entries rs slots)
  pub width : length slots ≡ k
  pub holes : count hole K ≡ k
  pub means : (X : List ℕ) → Terms k X → RowLike (fill K X)
      → Unifies (fill K X) R ↔ Agrees (graph bs ns sib) cls (vs ++ X) (us ++ entries rs slots)

-- the rest of a row, as a plan has it: one branch at each state
pub data Chain : ℕ → List ℕ → Type 0 where
  end : {x : List ℕ} → Chain 0 x
  at_place : {k : ℕ} {x : List ℕ} (i : ℕ) → i ≤ k → Chain (arity (root i x) + k) (close i x) → Chain (suc k) x

-- for each of its branches what is decided above it
unfoldable pub skeletons_of : {k : ℕ} {x : List ℕ} → Chain k x → List ℕ → List (List ℕ)
skeletons_of end K = []
skeletons_of (at_place {x = x} i h q) K = K ∷ skeletons_of q (decide i (root i x) K)

-- a branch of it is tried when the goal's terms R unify with what is decided above it
abbrev pub TriedOn : List ℕ → List ℕ → Type 0
TriedOn R K = Unifies (opened K) R

-- Along it, at a state: x is left of the row x₀, and `done` branches are tried. With those of what is left that are tried, they are those of all
pub record Going (R x₀ : List ℕ) (all : List (List ℕ)) (sib bs ns cls rs keep slots K x : List ℕ) (m k : ℕ) (q : Chain k x) (done : ℕ) : Type 0 where
  pub standing : Standing R sib bs ns cls rs keep slots K m k
  pub loose : Loose K x
  pub same : fill K x ≡ x₀
  pub rest : (n : ℕ) → Counts (TriedOn R) (skeletons_of q K) n → Counts (TriedOn R) all (done + n)

-- in the end: so many branches were tried, and whether the row is a hit
pub data Gone (R x₀ : List ℕ) (all : List (List ℕ)) (tried : ℕ) : Bool → Type 0 where
  hit : Counts (TriedOn R) all tried → Unifies x₀ R → Gone R x₀ all tried true
  miss : Counts (TriedOn R) all tried → ¬ Unifies x₀ R → Gone R x₀ all tried false

-- the symbols of the nodes at the branch number n: none where a node is not bound there
pub record Symbols (n : ℕ) (bs us bs' : List ℕ) : Type 0 where
  pub size : length bs' ≡ 64
  pub bound : (r : ℕ) → r < 64 → n < get_or us r 0 → get_or bs' r 0 ≡ get_or bs r 0
  pub unbound : (r : ℕ) → r < 64 → get_or us r 0 ≤ n → get_or bs' r 0 ≡ 0

-- The goal's tables as the code makes them (crates/run/src/nodes.rt). These definitions describe the code's own state; no promise of a
-- public function cites them.
use Rattle.std.specs.Prelude.{ℕ, zero, suc, ◌+◌, ◌≤◌, ◌<◌, ◌≡◌, ◌≢◌, true, false, cond, List, eqb, length, get_or, drop}
use Rattle.cell.specs.Cell.{is_var}
use Rattle.term.specs.Terms.{Terms, front}

-- where a steps lead from p
unfoldable pub hop_of : (sib : List ℕ) → ℕ → ℕ → ℕ
hop_of sib zero p = p
hop_of sib (suc a) p = hop_of sib a (get_or sib p 0)

-- some terms in at most 32 cells, with variables numbered below 32
pub record Whole (goal : List ℕ) : Type 0 where
  pub width : ℕ
  pub terms : Terms width goal
  pub few : length goal ≤ 32
  pub vars : (p : ℕ) → p < length goal → is_var (get_or goal p 0) ≡ true → get_or goal p 0 < 32

-- the table of steps: the place after each cell's term, and the next number
pub record Stepped (goal sib : List ℕ) : Type 0 where
  pub places : (p : ℕ) → p < length goal → get_or sib p 0 ≡ p + length (front 1 (drop p goal))
  pub numbers : (r : ℕ) → 32 ≤ r → r < 64 → get_or sib r 0 ≡ r + 1

-- the cell kept for a variable, or p where none is
unfoldable pub first_of : (first : List ℕ) (v p : ℕ) → ℕ
first_of first v p = cond (eqb (get_or first v 0) 64) p (get_or first v 0)

-- a symbol of the goal: its own node, bound for good
pub record Symbol (goal rep bound args until : List ℕ) (p : ℕ) : Type 0 where
  pub node : get_or rep p 0 ≡ p
  pub cell : get_or bound p 0 ≡ get_or goal p 0
  pub args_at : get_or args p 0 ≡ p + 1
  pub ends : get_or until p 0 ≡ 4095

-- a variable of the goal: the node of its first cell, unbound
pub record Variable (goal rep until : List ℕ) (p : ℕ) : Type 0 where
  pub low : get_or rep p 0 ≤ p
  pub cell : get_or goal (get_or rep p 0) 0 ≡ get_or goal p 0
  pub first : (q : ℕ) → q < get_or rep p 0 → get_or goal q 0 ≢ get_or goal p 0
  pub ends : get_or until p 0 ≡ 0

-- the first n cells of the goal as nodes; the other nodes are themselves, and unbound
pub record NamedTo (goal rep bound args until : List ℕ) (n : ℕ) : Type 0 where
  pub symbols : (p : ℕ) → p < n → is_var (get_or goal p 0) ≡ false → Symbol goal rep bound args until p
  pub variables : (p : ℕ) → p < n → is_var (get_or goal p 0) ≡ true → Variable goal rep until p
  pub others : (r : ℕ) → n ≤ r → r < 64 → get_or rep r 0 ≡ r
  pub unbound : (r : ℕ) → n ≤ r → get_or until r 0 ≡ 0
  pub size-rep : length rep ≡ 64
  pub size-bound : length bound ≡ 64
  pub size-args : length args ≡ 64
  pub size-until : length until ≡ 64

-- all of them
abbrev pub Named : (goal rep bound args until : List ℕ) → Type 0
Named goal rep bound args until = NamedTo goal rep bound args until (length goal)

-- The search for a term below itself (02, W-209, "with the occurs check"), as the code does it: a mark for each node, 0 new, 1 on the way down, 2 finite.
use Rattle.std.specs.Prelude.{ℕ, zero, suc, ◌+◌, ◌<◌, ◌≤◌, ◌≡◌, Bool, true, false, cond, List, eqb, length, get_or}
use Rattle.term.specs.Unify.{inst}
use Rattle.table.specs.All.{All}
use Rattle.walking.specs.code.Link.{steps}
use Rattle.classes.specs.code.Nodes.{Fair, Solves, Merges}
use Rattle.classes.specs.code.Finite.{Fin, FinAll}
use Rattle.classes.specs.code.Arrays.{nodes, Inside, Ready}

-- how many of n nodes from r on are new, and of all
unfoldable pub new_from : List ℕ → ℕ → ℕ → ℕ
new_from mark zero r = 0
new_from mark (suc n) r = cond (eqb (get_or mark r 0) 0) 1 0 + new_from mark n (suc r)

abbrev pub news : List ℕ → ℕ
news mark = new_from mark 64 0

-- marks after a search, whatever the arrays hold: no more nodes are new than before it
pub record Fewer (mark mark' : List ℕ) : Type 0 where
  pub size : length mark' ≡ 64
  pub few : news mark' ≤ news mark

-- every solution makes the term at r shorter than at each node on the way down to it
pub record Under (bs ns sib rep mark : List ℕ) (r : ℕ) : Type 0 where
  pub shorter : (own τ : ℕ → List ℕ) → Fair (nodes own bs ns sib) → Solves (nodes own bs ns sib) rep τ → (g : ℕ) → get_or mark g 0 ≡ 1
      → length (inst τ (own r)) < length (inst τ (own g))

-- marks of the three sorts, and what is marked finite is
pub record Marks (bs ns sib rep mark : List ℕ) : Type 0 where
  pub size : length mark ≡ 64
  pub low : (g : ℕ) → get_or mark g 0 ≤ 2
  pub done : (own : ℕ → List ℕ) (g : ℕ) → get_or mark g 0 ≡ 2 → Fin (nodes own bs ns sib) rep g

pub record Searching (bs ns sib rep mark : List ℕ) (r : ℕ) : Type 0 where
  pub ready : Ready bs ns sib rep
  pub inside : r < 64
  pub marks : Marks bs ns sib rep mark
  pub under : Under bs ns sib rep mark r

-- the term at r is finite, and the marks with it; or nothing solves the classes
pub data Searched (bs ns sib rep mark mark' : List ℕ) (r : ℕ) : Bool → Type 0 where
  ends : Marks bs ns sib rep mark' → ((g : ℕ) → get_or mark' g 0 ≡ 1 → get_or mark g 0 ≡ 1)
      → ((own : ℕ → List ℕ) → Fin (nodes own bs ns sib) rep r) → Searched bs ns sib rep mark mark' r true
  cycles : ((own τ : ℕ → List ℕ) → Fair (nodes own bs ns sib) → Solves (nodes own bs ns sib) rep τ → ⊥)
      → Searched bs ns sib rep mark mark' r false

-- the same of k arguments, the first of them at p
pub record SearchingAll (bs ns sib rep mark : List ℕ) (p k : ℕ) : Type 0 where
  pub ready : Ready bs ns sib rep
  pub marks : Marks bs ns sib rep mark
  pub here : Inside (steps sib k p)
  pub unders : All (Under bs ns sib rep mark) (steps sib k p)

pub data SearchedAll (bs ns sib rep mark mark' : List ℕ) (p k : ℕ) : Bool → Type 0 where
  all_end : Marks bs ns sib rep mark' → ((g : ℕ) → get_or mark' g 0 ≡ 1 → get_or mark g 0 ≡ 1)
      → ((own : ℕ → List ℕ) → FinAll (nodes own bs ns sib) rep (steps sib k p)) → SearchedAll bs ns sib rep mark mark' p k true
  one-cycles : ((own τ : ℕ → List ℕ) → Fair (nodes own bs ns sib) → Solves (nodes own bs ns sib) rep τ → ⊥)
      → SearchedAll bs ns sib rep mark mark' p k false

-- the terms at two nodes made equal: their classes are joined, and the term is finite; or nothing makes them equal
pub data Equals (bs ns sib rep rep' : List ℕ) (a b : ℕ) : Bool → Type 0 where
  equal : Ready bs ns sib rep' → ((own : ℕ → List ℕ) → Merges (nodes own bs ns sib) rep a b rep') → ((own : ℕ → List ℕ) → Fin (nodes own bs ns sib) rep' a)
      → Equals bs ns sib rep rep' a b true
  never : length rep' ≡ 64 → ((own τ : ℕ → List ℕ) → Fair (nodes own bs ns sib) → Solves (nodes own bs ns sib) rep τ → inst τ (own a) ≡ inst τ (own b) → ⊥)
      → Equals bs ns sib rep rep' a b false

-- The nodes as the code has them (02, W-209), in arrays of 64: the symbol of each (0: none), where its arguments begin, the next of them, and
-- what stands for its class. What the two functions are given, and what they give.
use Rattle.std.specs.Prelude.{ℕ, zero, suc, ◌+◌, ◌<◌, ◌≤◌, ◌≡◌, ◌≢◌, cond, List, eqb, length, get_or}
use Rattle.cell.specs.Cell.{arity}
use Rattle.table.specs.All.{All}
use Rattle.walking.specs.code.Link.{steps}
use Rattle.classes.specs.code.Nodes.{Nodes, at, Flat, Merges, MergesAll, Fails, FailsAll}

-- whatever cells the nodes stand for
abbrev pub nodes : (ℕ → List ℕ) → (bound args sib : List ℕ) → Nodes
nodes own bs ns sib = record { own = own; head = λ r. get_or bs r 0; kids = λ r. steps sib (arity (get_or bs r 0)) (get_or ns r 0) }

-- how many of n nodes from r on stand for themselves; and of all: how many classes there are
unfoldable pub roots_from : List ℕ → ℕ → ℕ → ℕ
roots_from rep zero r = 0
roots_from rep (suc n) r = cond (eqb (at rep r) r) 1 0 + roots_from rep n (suc r)

abbrev pub classes : List ℕ → ℕ
classes rep = roots_from rep 64 0

abbrev pub Inside : List ℕ → Type 0
Inside rs = All (λ (x : ℕ). x < 64) rs

pub record Ready (bs ns sib rep : List ℕ) : Type 0 where
  pub size : length rep ≡ 64
  pub flat : Flat rep
  pub small : (r : ℕ) → r < 64 → at rep r < 64
  pub kids : (r : ℕ) → r < 64 → get_or bs r 0 ≢ 0 → Inside (steps sib (arity (get_or bs r 0)) (get_or ns r 0))

pub record ReadyAll (bs ns sib rep : List ℕ) (p q k : ℕ) : Type 0 where
  pub ready : Ready bs ns sib rep
  pub left : Inside (steps sib k p)
  pub right : Inside (steps sib k q)

-- at most n classes are left; or they do not unify, and n is 0
pub data Unified (bs ns sib rep rep' : List ℕ) (a b n : ℕ) : Type 0 where
  joined : 0 < n → classes rep' ≤ n → Ready bs ns sib rep' → ((own : ℕ → List ℕ) → Merges (nodes own bs ns sib) rep a b rep')
      → Unified bs ns sib rep rep' a b n
  apart : n ≡ 0 → length rep' ≡ 64 → ((own : ℕ → List ℕ) → Fails (nodes own bs ns sib) rep a b) → Unified bs ns sib rep rep' a b n

pub data UnifiedAll (bs ns sib rep rep' : List ℕ) (p q k n : ℕ) : Type 0 where
  all-joined : 0 < n → classes rep' ≤ n → Ready bs ns sib rep'
      → ((own : ℕ → List ℕ) → MergesAll (nodes own bs ns sib) rep (steps sib k p) (steps sib k q) rep')
      → UnifiedAll bs ns sib rep rep' p q k n
  one_apart : n ≡ 0 → length rep' ≡ 64 → ((own : ℕ → List ℕ) → FailsAll (nodes own bs ns sib) rep (steps sib k p) (steps sib k q))
      → UnifiedAll bs ns sib rep rep' p q k n

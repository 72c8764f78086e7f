-- A row's open terms against nodes (02, W-209: "The first branch met for it binds; a later one unifies the two terms"). These definitions
-- describe the code's own state; no promise of a public function cites them.
use Rattle.std.specs.Prelude.{ℕ, ◌≡◌, ◌≢◌, length}
use mathlib.Core.List.{List, Memᴰ}
use Rattle.term.specs.Unify.{inst}
use Rattle.term.specs.code.Fresh.{Fresh}
use Rattle.classes.specs.code.Nodes.{Nodes, owns, at, Solves}

-- some substitution solves the classes and makes the terms xs equal to what the nodes rs stand for. Of a row in a run, xs are its variables
-- that were met, then its open terms; rs are the nodes that these variables met first, then those at the open places
pub record Agrees (N : Nodes) (rep xs rs : List ℕ) : Type 0 where
  pub by : ℕ → List ℕ
  pub solves : Solves N rep by
  pub same : inst by xs ≡ inst by (owns N rs)

-- of the nodes N the node v, which has no symbol, gets the symbol c over the nodes ws: these are N'
pub record Binds (N N' : Nodes) (v c : ℕ) (ws : List ℕ) : Type 0 where
  pub own_same : (r : ℕ) → N'.own r ≡ N.own r
  pub head-here : N'.head v ≡ c
  pub kids-here : N'.kids v ≡ ws
  pub head-other : (r : ℕ) → r ≢ v → N'.head r ≡ N.head r
  pub kids-other : (r : ℕ) → r ≢ v → N'.kids r ≡ N.kids r

-- the nodes ws are new: each is a variable of its own, stands for itself and for no other, has no symbol and is no node's argument
pub record New (N : Nodes) (rep ws : List ℕ) : Type 0 where
  pub cells : List ℕ
  pub fresh : Fresh (length ws) cells
  pub are : owns N ws ≡ cells
  pub apart : (r : ℕ) → ¬ Memᴰ r ws → (c : ℕ) → Memᴰ c (N.own r) → ¬ Memᴰ c cells
  pub selves : (r : ℕ) → Memᴰ (at rep r) ws → Memᴰ r ws × (at rep r ≡ r)
  pub fixed : (r : ℕ) → Memᴰ r ws → at rep r ≡ r
  pub bare : (r : ℕ) → Memᴰ r ws → N.head r ≡ 0
  pub no-kid : (r : ℕ) → N.head r ≢ 0 → (s : ℕ) → Memᴰ s (N.kids r) → ¬ Memᴰ s ws

-- The reply to a goal from a row that it hits (02, W-203): "the goal with the hit's bindings filled in, variables renumbered by first appearance.
-- It is the most general common instance, fixed as cells."
use Rattle.std.specs.Prelude.{ℕ, ◌≤◌, ◌<◌, ◌≡◌, length}
use mathlib.Core.List.{List, [], ◌∷◌, Memᴰ}
use Rattle.term.specs.Unify.{Matches}
use Rattle.table.specs.Table.{appear, up_from}
use Rattle.instance.specs.Instance.{MostGeneral}
use Rattle.limits.specs.Limits.{most_reply_cells}

-- 01, "Variables are numbered 0, 1, 2 in order of first appearance": the same words as `order` of `Head` (table/specs/Table)
abbrev pub Numbered : List ℕ → Type 0
Numbered xs = appear [] xs ≡ up_from 0 (length (appear [] xs))

pub record Reply (row goal cells : List ℕ) : Type 0 where
  pub instance : MostGeneral row goal cells
  pub order : Numbered cells

-- the replies of rows, from the top: one for each row that unifies with the goal
pub data Replies (goal : List ℕ) : List (List ℕ) → List (List ℕ) → Type 0 where
  none : Replies goal [] []
  hit : {row cells : List ℕ} {rows all : List (List ℕ)} → Matches row goal → Reply row goal cells → Replies goal rows all
      → Replies goal (row ∷ rows) (cells ∷ all)
  miss : {row : List ℕ} {rows all : List (List ℕ)} → ¬ Matches row goal → Replies goal rows all → Replies goal (row ∷ rows) all

-- 02, W-209, "a reply needs over 1,024 cells": one that does not
abbrev pub Short : List ℕ → Type 0
Short cells = length cells ≤ most_reply_cells

-- and replies of which one does
pub record Large (all : List (List ℕ)) : Type 0 where
  pub cells : List ℕ
  pub one : Memᴰ cells all
  pub over : most_reply_cells < length cells

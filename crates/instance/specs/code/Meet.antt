-- Where the making of one reply stands, in the list that the code works in: the goal so far, then what is left of the row. The contracts of
-- private functions speak of it, and that of `common` (crate meeting), which stands beneath the replies; no entry's promise does.
use Rattle.std.specs.Prelude.{ℕ, suc, ◌+◌, ◌≤◌, ◌<◌, ◌≡◌, List, ◌++◌, length, take, drop}
use Rattle.term.specs.Terms.{Terms}
use Rattle.term.specs.Bind.{Within}
use Rattle.table.specs.Table.{Head}
use Rattle.instance.specs.Instance.{Common, MostGeneral}
use Rattle.instance.specs.code.Left.{Left}
use Rattle.instance.specs.Rewrite.{put}
use Rattle.limits.specs.Limits.{most_reply_cells}

-- at a place of a list stands at least one term
pub record TermsAt (xs : List ℕ) (at : ℕ) : Type 0 where
  pub after : ℕ
  pub terms : Terms (suc after) (drop at xs)

-- the term t stands there, and ends before the place e
pub record TermAt (xs t : List ℕ) (at e : ℕ) : Type 0 where
  pub term : Terms 1 t
  pub split : drop at xs ≡ t ++ drop e xs
  pub end : at + length t ≡ e

-- The goal so far has the first `len` cells, `at` of them passed; of the row the cells from i up to n are left: at most 1,024 of each
pub record Meeting (row goal cells : List ℕ) (i n at len turns : ℕ) : Type 0 where
  pub inside : at ≤ len
  pub apart : len ≤ i
  pub started : i ≤ n
  pub goal-short : len ≤ most_reply_cells
  pub row-short : n ≤ i + most_reply_cells
  pub held : n ≤ length cells
  pub left : Left row goal (drop i (take n cells)) (take at (take len cells)) (drop at (take len cells)) turns

-- a variable v is about to be replaced by a term t: in the goal so far, of which `at` cells are passed then, and in the row's cells from i on
pub record After (row goal cells : List ℕ) (v : ℕ) (t : List ℕ) (i n at len turns : ℕ) : Type 0 where
  pub left : Left row goal (put v t (drop i (take n cells))) (put v t (take at (take len cells))) (put v t (drop at (take len cells))) turns

-- the variables of a list are among n
pub record Few (n : ℕ) (xs : List ℕ) : Type 0 where
  pub vars : List ℕ
  pub found : Within vars xs
  pub few : length vars ≤ n

-- the end: the first n cells are the most general common instance, and it has at most 1,024 cells and 64 variables
pub record InstanceMet (row goal cells : List ℕ) (n : ℕ) : Type 0 where
  pub within : n ≤ length cells
  pub short : n ≤ most_reply_cells
  pub general : MostGeneral row goal (take n cells)
  pub few : Few 64 (take n cells)

-- or all that a row and a goal have in common has over 1,024 cells
pub record Over (row goal : List ℕ) : Type 0 where
  pub over : (Y : List ℕ) → Common row goal Y → most_reply_cells < length Y

-- a hit: a row and a goal of one width that have something in common
pub record Hit (row goal : List ℕ) : Type 0 where
  pub wide : ℕ
  pub row-head : Head wide row
  pub goal-head : Head wide goal
  pub made : List ℕ
  pub common : Common row goal made

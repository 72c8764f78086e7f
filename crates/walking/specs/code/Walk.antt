-- What the walk takes for granted, and what it gives.
use Rattle.std.specs.Prelude.{ℕ, ◌≤◌, ◌≡◌, List, map, length, take}
use Rattle.std.proofs.lemmas.List.Edits.{sets}
use Rattle.term.specs.Unify.{renamed}
use Rattle.table.specs.Table.{up_from, IsTable, IsGoal}
use Rattle.plan.specs.Plans.{Plan, branches}
use Rattle.answer.specs.code.Tree.{hits, tried}
use Rattle.plan.specs.Notes.{notes, word}

-- a plan for an accepted table, noted in the first `count` numbers of an array; a goal for that table; a byte of room for each row
pub record Begun (noted : List ℕ) (count : ℕ) (goal room : List ℕ) (w : ℕ) : Type 0 where
  pub table : List ℕ
  pub rows : List (List ℕ)
  pub accepted : IsTable table w rows
  pub tree : Plan w rows
  pub number : count ≡ branches tree
  pub words : take count noted ≡ map word (notes tree (up_from 1 w) 32 0)
  pub is : IsGoal w goal
  pub roomy : length rows ≤ length room

-- the hits are the room's first bytes, and the rest of it is as it was; so many hits there are, and so many branches were tried
pub record Walked {noted : List ℕ} {count : ℕ} {goal room : List ℕ} {w : ℕ} (b : Begun noted count goal room w) (room' : List ℕ)
    (found tries : ℕ) : Type 0 where
  pub wrote : room' ≡ sets room 0 (hits b.tree 32 (renamed goal) 0)
  pub number-found : found ≡ length (hits b.tree 32 (renamed goal) 0)
  pub number-tried : tries ≡ tried b.tree 32 (renamed goal)

-- What is decided above a branch (01, "A run": "everything decided above that branch, each open place there counting as a fresh variable"):
-- a row's cells as far as they are known, with a hole at each open place.
use Rattle.std.specs.Prelude.{ℕ, zero, suc, ◌-◌, ◌^◌, cond, List, [], ◌∷◌, ◌++◌, eqb, replicate}
use Rattle.cell.specs.Cell.{arity}
use Rattle.term.specs.Terms.{front, back}
use Rattle.table.specs.Table.{count, up_from}

-- a number that is no cell of 01: its kind is 3
unfoldable pub hole : ℕ
hole = 2 ^ 32 - 1

-- the holes filled by the terms of a list, in order
unfoldable pub fill : List ℕ → List ℕ → List ℕ
fill [] xs = []
fill (c ∷ K) xs = cond (eqb c hole) (front 1 xs ++ fill K (back 1 xs)) (c ∷ fill K xs)

-- the hole at open place i decided by a cell, with a hole for each of its arguments
unfoldable pub decide : ℕ → ℕ → List ℕ → List ℕ
decide i c [] = []
decide zero c (d ∷ K) = cond (eqb d hole) (c ∷ (replicate (arity c) hole ++ K)) (d ∷ decide zero c K)
decide (suc i) c (d ∷ K) = cond (eqb d hole) (hole ∷ decide i c K) (d ∷ decide (suc i) c K)

-- each hole a fresh variable: a row has at most 32 variables, numbered from 0, and a goal's are renamed to 2^16 and on
unfoldable pub opened : List ℕ → List ℕ
opened K = fill K (up_from (2 ^ 15) (count hole K))

-- Terms as flat lists of cells, each symbol before its arguments (01, "Cells"), and the open places of such a list (01, "Plans").
use Rattle.std.specs.Prelude.{ℕ, zero, suc, ◌+◌, List, [], ◌∷◌}
use Rattle.cell.specs.Cell.{arity}

-- 01, "A term is a list of cells, each symbol before its arguments": the cells are exactly k terms one after another
pub data Terms : ℕ → List ℕ → Type 0 where
  none : Terms 0 []
  more : {c k : ℕ} {xs : List ℕ} → Terms (arity c + k) xs → Terms (suc k) (c ∷ xs)

-- the cells of the first k terms, and the cells after them
unfoldable pub front : ℕ → List ℕ → List ℕ
front k [] = []
front zero (c ∷ xs) = []
front (suc k) (c ∷ xs) = c ∷ front (arity c + k) xs

unfoldable pub back : ℕ → List ℕ → List ℕ
back k [] = []
back zero (c ∷ xs) = c ∷ xs
back (suc k) (c ∷ xs) = back (arity c + k) xs

-- 01, "a list of open places, left to right": the open places of a list of terms are where its terms begin. The cell at place i
unfoldable pub root : ℕ → List ℕ → ℕ
root i [] = 0
root zero (c ∷ xs) = c
root (suc i) (c ∷ xs) = root (arity c + i) xs

-- 01, "that place is closed and, for a name with arguments, replaced in the list by its argument places":
-- the list without the cell at place i, whose arguments stand open where it stood
unfoldable pub close : ℕ → List ℕ → List ℕ
close i [] = []
close zero (c ∷ xs) = xs
close (suc i) (c ∷ xs) = c ∷ close (arity c + i) xs

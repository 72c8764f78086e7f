-- What the pieces answer: rows that are kept, and the bad blocks.
use Rattle.std.specs.Prelude.{ℕ, ◌+◌, ◌≡◌, cond, ltb, length}
use mathlib.Core.List.{List, [], ◌∷◌, flatten}
use Rattle.std.proofs.lemmas.List.Edits.{sets}
use Rattle.octets.specs.Octets.{fitting}
use Rattle.salvaging.specs.Salvage.{blocks_in, bad_at}
use Rattle.mending.specs.declared.Kept.{Kept}

-- how many rows, and where the last one ends
pub record Keeps (rows : List (List ℕ)) (r : Kept) : Type 0 where
  pub many : r.rows ≡ length rows
  pub last : r.end ≡ length (flatten rows)

-- a block that is known to be bad, where the file has it, and the bad ones after it
abbrev pub bad_on : List ℕ → ℕ → List ℕ
bad_on file number = cond (ltb number (blocks_in file)) (number ∷ bad_at file (number + 1)) []

-- how many numbers, and as many of them as there is room for
pub record NumbersListed (numbers room room' : List ℕ) (count : ℕ) : Type 0 where
  pub many : count ≡ length numbers
  pub put : room' ≡ sets room 0 (fitting room 0 numbers)

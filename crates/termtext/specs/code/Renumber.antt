-- The names of a goal, numbered on from those of a table, as the code does it: its cells are made by the goal's own names first, and these
-- are looked up. These definitions describe the code's own state; that they mean what Goal says is proved in proofs/RenumberLaws.
use Rattle.std.specs.Prelude.{ℕ, suc, ◌+◌, ◌%◌, cond, List, [], ◌∷◌, map, eqb, ltb, length, get_or}
use Rattle.cell.specs.Cell.{name_cell, values_at}
use Rattle.cell.specs.Same.{same}
use Rattle.grammar.specs.Numbering.{Words}

-- where a word first stands among some; their number where it does not
unfoldable pub word_number : List ℕ → Words → ℕ
word_number w [] = 0
word_number w (v ∷ vs) = cond (same w v) 0 (suc (word_number w vs))

-- the number of each of some words among others, the new ones numbered on; so many were new before
unfoldable pub numbers_from : Words → ℕ → Words → List ℕ
numbers_from words new [] = []
numbers_from words new (v ∷ vs) =
    cond (ltb (word_number v words) (length words)) (word_number v words ∷ numbers_from words new vs)
    ((length words + new) ∷ numbers_from words (suc new) vs)

-- those of some whose word is not among the words
unfoldable pub new_ones : {A : Type 0} → (A → List ℕ) → Words → List A → List A
new_ones word words [] = []
new_ones word words (x ∷ xs) = cond (ltb (word_number (word x) words) (length words)) (new_ones word words xs) (x ∷ new_ones word words xs)

-- a cell with its name's number replaced
unfoldable pub new_cell : List ℕ → ℕ → ℕ
new_cell numbers c =
    cond (eqb (values_at c).kind 1) (name_cell (values_at c).args (get_or numbers (values_at c).number 0 % 65536)) c

abbrev pub new_cells : List ℕ → List ℕ → List ℕ
new_cells numbers cells = map (new_cell numbers) cells

-- Files of blocks (02, W-211): "The file is blocks of 512 bytes, little-endian: block number from 0, 125 cells, then two check words."
-- A block is 128 words of 32 bits; a file's bytes are its blocks' words, four bytes each (crate octets).
use Rattle.std.specs.Prelude.{◌≡◌, ℕ, zero, suc, ◌-◌, ◌*◌, ◌/◌, Bool, cond, ◌&&◌, List, [], ◌∷◌, ◌++◌, length, take, drop, ◌==◌, slice_index}
use Rattle.std.proofs.lemmas.List.Edits.{sets}
use Rattle.octets.specs.Octets.{cells_of, fitting}
use Rattle.blocks.specs.Sums.{checks}

-- the words of a block: its number, its cells, the check words of both
abbrev pub block_of : (number : ℕ) (cells : List ℕ) → List ℕ
block_of number cells = (number ∷ cells) ++ checks (number ∷ cells)

-- so many blocks, the first of this number, their cells one after another
unfoldable pub blocks_from : ℕ → ℕ → List ℕ → List ℕ
blocks_from number zero cells = []
blocks_from number (suc more) cells = block_of number (take 125 cells) ++ blocks_from (suc number) more (drop 125 cells)

-- Reading. A block's cells; and whether it is sound, so 128 words with neither "a wrong number or check"
abbrev pub cells_in : List ℕ → List ℕ
cells_in block = take 125 (drop 1 block)

unfoldable pub sound : (number : ℕ) (block : List ℕ) → Bool
sound number block =
    (length block == 128) && (slice_index block 0 == number
    && (slice_index block 126 == slice_index (checks (take 126 block)) 0 && slice_index block 127 == slice_index (checks (take 126 block)) 1))

-- of so many blocks that begin with these words, the first having this number: how many are sound before the first that is not, and
-- these blocks' cells one after another
unfoldable pub sound_from : ℕ → ℕ → List ℕ → ℕ
sound_from zero number words = 0
sound_from (suc more) number words =
    cond (sound number (take 128 words)) (suc (sound_from more (suc number) (drop 128 words))) 0

unfoldable pub cells_from : ℕ → ℕ → List ℕ → List ℕ
cells_from zero number words = []
cells_from (suc more) number words =
    cond (sound number (take 128 words)) (cells_in (take 128 words) ++ cells_from more (suc number) (drop 128 words)) []

-- the whole blocks of a file from one on: how many are sound before the first that is not, and their cells
abbrev pub whole : List ℕ → ℕ
whole file = length file / 512

abbrev pub good : List ℕ → ℕ → ℕ
good file number = sound_from (whole file - number) number (drop (128 * number) (cells_of file))

abbrev pub good_cells : List ℕ → ℕ → List ℕ
good_cells file number = cells_from (whole file - number) number (drop (128 * number) (cells_of file))

-- a block's words in a file
abbrev pub block_at : List ℕ → ℕ → List ℕ
block_at file number = take 128 (drop (128 * number) (cells_of file))

-- what looking for them from a block on answers, and what it leaves in a room: the cells, as far as there is room
pub record Found (file : List ℕ) (number : ℕ) (room room' : List ℕ) (count : ℕ) : Type 0 where
  pub many : count ≡ good file number
  pub put : room' ≡ sets room 0 (fitting room 0 (good_cells file number))

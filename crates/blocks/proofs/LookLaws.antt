-- The code's looks at blocks: the tests of one block, a block's words from a file's bytes, and blocks one after another.
use Rattle.std.proofs.Common.{◌≡◌, ℕ, suc, ◌+◌, ◌-◌, ◌*◌, ◌<◌, ◌≤◌, true, false, eqb, List, [], ◌∷◌, ◌++◌, length, get_or, take, drop, sym, ap, ◌∙◌, append-nil, arith, length-drop, drop_of_length-le, length-take-le, drop-cons, drop-drop, eq-eqb, ne_eqb}
use Rattle.octets.specs.Octets.{Put, cells_of}
use Rattle.octets.proofs.PutLaws.{Putting, put-begins, put-part, put-ends, put_front}
use Rattle.octets.proofs.CellsLaws.{cells_count}
use Rattle.octets.proofs.BytesLaws.{cells-drop, cells-take}
use Rattle.blocks.specs.Sums.{first, second}
use Rattle.blocks.specs.Blocks.{sound, cells_in, sound_from, cells_from, whole, good, good_cells, block_at, Found}

-- the words that are summed
front : (block : List ℕ) → length block ≡ 128 → get_or block 0 0 ∷ cells_in block ≡ take 126 block
front block h = sym (ap (take 126) (drop-cons block 0 0 (omega arith)))

module _ (n : ℕ) (block : List ℕ) (size : length block ≡ 128) where
  pub other-number : (get_or block 0 0 ≡ n → ⊥) → false ≡ sound n block
  unfolding sound
  other-number d = rw (size, ne_eqb (get_or block 0 0) n d)

  pub other-first : (one : ℕ) → one ≡ first 1 (get_or block 0 0 ∷ cells_in block) → get_or block 0 0 ≡ n → (get_or block 126 0 ≡ one → ⊥)
      → false ≡ sound n block
  unfolding sound
  other-first one e f d =
      let s : one ≡ first 1 (take 126 block) = e ∙ ap (first 1) (front block size) in
      let t : eqb (get_or block 126 0) (first 1 (take 126 block)) ≡ false = ne_eqb _ _ (λ g. d (g ∙ sym s)) in
      rw (size, eq-eqb (get_or block 0 0) n f, t)

  pub by-second : (one two : ℕ) → one ≡ first 1 (get_or block 0 0 ∷ cells_in block) → two ≡ second 1 0 (get_or block 0 0 ∷ cells_in block)
      → get_or block 0 0 ≡ n → get_or block 126 0 ≡ one → eqb (get_or block 127 0) two ≡ sound n block
  unfolding sound
  by-second one two e₁ e₂ f g =
      let s : one ≡ first 1 (take 126 block) = e₁ ∙ ap (first 1) (front block size) in
      let u : two ≡ second 1 0 (take 126 block) = e₂ ∙ ap (second 1 0) (front block size) in
      let t : eqb (get_or block 126 0) (first 1 (take 126 block)) ≡ true = eq-eqb _ _ (g ∙ s) in
      rw (size, eq-eqb (get_or block 0 0) n f, t, u)

-- a block's words are the cells of its bytes
abbrev part : List ℕ → ℕ → List ℕ
part file i = take (512 * i + 512 - 512 * i) (drop (512 * i) file)

pub block_here : (file : List ℕ) (i : ℕ) → 512 * i + 512 ≤ length file
    → (cells_of (part file i) ≡ block_at file i) × (length (block_at file i) ≡ 128)
block_here file i h =
    let a : 512 * i ≡ 4 * (128 * i) = omega arith in
    let n : 512 * i + 512 - 512 * i ≡ 4 * 128 = omega arith in
    let e : part file i ≡ take (4 * 128) (drop (4 * (128 * i)) file) =
    ap (λ (k : ℕ). take k (drop (512 * i) file)) n ∙ ap (λ (k : ℕ). take 512 (drop k file)) a in
    let f : cells_of (part file i) ≡ block_at file i =
    ap cells_of e ∙ cells-take 128 (drop (4 * (128 * i)) file) ∙ ap (take 128) (cells-drop (128 * i) file) in
    (f, length-take-le 128 (drop (128 * i) (cells_of file)) (omega (arith, length-drop (128 * i) (cells_of file), cells_count file)))

pub looked : (file : List ℕ) (i : ℕ) {block block' : List ℕ} {n : ℕ} → 512 * i + 512 ≤ length file → length block ≡ 128
    → Put block block' 0 (cells_of (part file i)) n → block' ≡ block_at file i
looked file i {block} {block'} {n} h l p =
    let b = block_here file i h in
    let q : Put block block' 0 (block_at file i) n = rw b.0 at p in
    let f = put_front q (omega (arith, b.1)) in
    let d : drop (length (block_at file i)) block ≡ [] = drop_of_length-le block {i = length (block_at file i)} (omega (arith, b.1)) in
    f.1 ∙ ap (λ (l : List ℕ). block_at file i ++ l) d ∙ append-nil (block_at file i)

-- blocks from one on: what is counted and put so far, and what is left, are the whole
pub record Looking (file : List ℕ) (from : ℕ) (room room' : List ℕ) (on i : ℕ) : Type 0 where
  pub late : from ≤ i
  pub many : (i - from) + good file i ≡ good file from
  pub puts : Putting room room' 0 on (good_cells file i) (good_cells file from)

pub look-begins : (file : List ℕ) (from : ℕ) (room : List ℕ) → Looking file from room room 0 from
look-begins file from room = record { late = omega arith; many = omega arith; puts = put-begins }

-- where a block is sound, and where it is not
rest_at : (file : List ℕ) (i : ℕ) → i < whole file → (whole file - i ≡ suc (whole file - (i + 1)))
    × (drop 128 (drop (128 * i) (cells_of file)) ≡ drop (128 * (i + 1)) (cells_of file))
rest_at file i h =
    let e : 128 * i + 128 ≡ 128 * (i + 1) = omega arith in
    (omega arith, drop-drop 128 (128 * i) (cells_of file) ∙ ap (λ (k : ℕ). drop k (cells_of file)) e)

pub good-next : (file : List ℕ) (i : ℕ) → i < whole file → sound i (block_at file i) ≡ true
    → (good file i ≡ 1 + good file (i + 1)) × (good_cells file i ≡ cells_in (block_at file i) ++ good_cells file (i + 1))
unfolding sound_from cells_from
good-next file i h s =
    let r = rest_at file i h in
    let n : i + 1 ≡ suc i = omega arith in
    let o : 1 + sound_from (whole file - (i + 1)) (suc i) (drop (128 * (i + 1)) (cells_of file))
    ≡ suc (sound_from (whole file - (i + 1)) (suc i) (drop (128 * (i + 1)) (cells_of file))) = omega arith in
    (rw (r.0, s, r.1) (rw n (sym (rw n at o))), rw (r.0, s, r.1, n))

pub good-ends : (file : List ℕ) (i : ℕ) → i < whole file → sound i (block_at file i) ≡ false → (good file i ≡ 0) × (good_cells file i ≡ [])
unfolding sound_from cells_from
good-ends file i h s = let r = rest_at file i h in (rw (r.0, s), rw (r.0, s))

pub good_none : (file : List ℕ) (i : ℕ) → whole file ≤ i → (good file i ≡ 0) × (good_cells file i ≡ [])
unfolding sound_from cells_from
good_none file i h = let e : whole file - i ≡ 0 = omega arith in (rw e, rw e)

pub look-next : {file room room' room'' : List ℕ} {from on on' i : ℕ} → Looking file from room room' on i → i < whole file
    → sound i (block_at file i) ≡ true → Put room' room'' on (cells_in (block_at file i)) on' → Looking file from room room'' on' (i + 1)
look-next {file} {i = i} l h s p =
    let g = good-next file i h s in
    record {
      late = omega (arith, l.late);
      many = omega (arith, l.late, l.many, g.0);
      puts = put-part (rw g.1 at l.puts) p;
    }

pub look-ends : {file room room' : List ℕ} {from on i : ℕ} → Looking file from room room' on i → good file i ≡ 0 → good_cells file i ≡ []
    → Found file from room room' (i - from)
look-ends l n e = record { many = omega (arith, l.many); put = (put-ends (rw e at l.puts)).wrote }

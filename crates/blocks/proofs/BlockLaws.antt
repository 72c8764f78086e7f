-- One block, and blocks one after another: what is written is sound and its cells are found again; what is sound is the block of its cells.
use Rattle.std.proofs.Common.{◌≡◌, ℕ, zero, suc, ◌+◌, ◌*◌, ◌^◌, ◌<◌, ◌≤◌, Bool, true, false, cond, ◌&&◌, eqb, ◌⊎◌, List, [], ◌∷◌, ◌++◌, length, get_or, take, drop, sym, refl, ap, ◌∙◌, inl, inr, arith, length-append, length-drop, take-append-drop, length-take-le, drop-cons, take_at, get_or-append-add, drop_at, eqb-true}
use lib.Seq.{get_or_at}
use Rattle.term.proofs.Tests.{bool_cases, eqb_same}
use Rattle.term.proofs.Lists.{nil-of-length}
use Rattle.octets.specs.Octets.{AreWords}
use Rattle.blocks.specs.Sums.{first, second, checks}
use Rattle.blocks.specs.Blocks.{block_of, blocks_from, cells_in, sound, sound_from, cells_from}
use Rattle.blocks.proofs.SumsLaws.{first_small, second-small}

-- Words of lists put together and cut.
pub words-both : (xs ys : List ℕ) → AreWords xs → AreWords ys → AreWords (xs ++ ys)
words-both [] ys h g = g
words-both (x ∷ xs) ys h g = (h.0, words-both xs ys h.1 g)

pub words_take : (n : ℕ) (xs : List ℕ) → AreWords xs → AreWords (take n xs)
words_take zero xs h = tt
words_take (suc n) [] h = tt
words_take (suc n) (x ∷ xs) h = (h.0, words_take n xs h.1)

pub words-drop : (n : ℕ) (xs : List ℕ) → AreWords xs → AreWords (drop n xs)
words-drop zero xs h = h
words-drop (suc n) [] h = tt
words-drop (suc n) (x ∷ xs) h = words-drop n xs h.1

-- One block.
pub block-length : (n : ℕ) (cells : List ℕ) → length cells ≡ 125 → length (block_of n cells) ≡ 128
block-length n cells h = omega (arith, length-append (n ∷ cells) (checks (n ∷ cells)))

pub block-cells : (n : ℕ) (cells : List ℕ) → length cells ≡ 125 → cells_in (block_of n cells) ≡ cells
block-cells n cells h = take_at cells (checks (n ∷ cells)) 125 h

block-front : (n : ℕ) (cells : List ℕ) → length cells ≡ 125 → take 126 (block_of n cells) ≡ n ∷ cells
block-front n cells h = take_at (n ∷ cells) (checks (n ∷ cells)) 126 (omega arith)

block-first : (n : ℕ) (cells : List ℕ) → length cells ≡ 125 → get_or (block_of n cells) 126 0 ≡ first 1 (n ∷ cells)
block-first n cells h = get_or_at (n ∷ cells) (first 1 (n ∷ cells)) (second 1 0 (n ∷ cells) ∷ []) 0 126 (omega arith)

block-second : (n : ℕ) (cells : List ℕ) → length cells ≡ 125 → get_or (block_of n cells) 127 0 ≡ second 1 0 (n ∷ cells)
block-second n cells h =
    let e : 127 ≡ length (n ∷ cells) + 1 = omega arith in
    ap (λ (k : ℕ). get_or (block_of n cells) k 0) e ∙ get_or-append-add (n ∷ cells) (checks (n ∷ cells)) 1 0

pub block-sound : (n : ℕ) (cells : List ℕ) → length cells ≡ 125 → sound n (block_of n cells) ≡ true
unfolding sound
block-sound n cells h =
    rw (
      block-length n cells h,
      block-front n cells h,
      block-first n cells h,
      block-second n cells h,
      eqb_same 128,
      eqb_same n,
      eqb_same (first 1 (n ∷ cells)),
      eqb_same (second 1 0 (n ∷ cells)),
    )

block_words : (n : ℕ) (cells : List ℕ) → n < 2 ^ 32 → AreWords cells → AreWords (block_of n cells)
block_words n cells h w =
    words-both (n ∷ cells) (checks (n ∷ cells)) (h, w) (first_small 1 (n ∷ cells) (omega arith), (second-small 1 0 (n ∷ cells) (omega arith), tt))

-- what a sound block is
pub and_both : (a b : Bool) → (a && b) ≡ true → (a ≡ true) × (b ≡ true)
and_both true b e = (refl, e)
and_both false b e = let z : false ≡ true = e in (z, cc)

pub record Sound (n : ℕ) (block : List ℕ) : Type 0 where
  pub size : length block ≡ 128
  pub number : get_or block 0 0 ≡ n
  pub one : get_or block 126 0 ≡ first 1 (take 126 block)
  pub two : get_or block 127 0 ≡ second 1 0 (take 126 block)

pub sound-parts : (n : ℕ) (block : List ℕ) → sound n block ≡ true → Sound n block
unfolding sound
sound-parts n block e =
    let p = and_both (eqb (length block) 128) _ e in
    let q = and_both (eqb (get_or block 0 0) n) _ p.1 in
    let r = and_both (eqb (get_or block 126 0) (first 1 (take 126 block))) _ q.1 in
    record {
      size = eqb-true (length block) 128 p.0;
      number = eqb-true (get_or block 0 0) n q.0;
      one = eqb-true (get_or block 126 0) (first 1 (take 126 block)) r.0;
      two = eqb-true (get_or block 127 0) (second 1 0 (take 126 block)) r.1;
    }

pub sound-is : (n : ℕ) (block : List ℕ) → sound n block ≡ true → block ≡ block_of n (cells_in block)
sound-is n block e = go (sound-parts n block e)
  where
    go : Sound n block → block ≡ block_of n (cells_in block)
    go s =
        let d0 : drop 0 block ≡ get_or block 0 0 ∷ drop 1 block = drop-cons block 0 0 (omega (arith, s.size)) in
        let front : take 126 block ≡ n ∷ cells_in block = ap (take 126) d0 ∙ ap (λ (k : ℕ). k ∷ cells_in block) s.number in
        let d1 : drop 126 block ≡ get_or block 126 0 ∷ drop 127 block = drop-cons block 126 0 (omega (arith, s.size)) in
        let d2 : drop 127 block ≡ get_or block 127 0 ∷ drop 128 block = drop-cons block 127 0 (omega (arith, s.size)) in
        let d3 : drop 128 block ≡ [] = nil-of-length (drop 128 block) (omega (arith, length-drop 128 block, s.size)) in
        let back : drop 126 block ≡ checks (take 126 block) =
        d1 ∙ ap (λ (l : List ℕ). get_or block 126 0 ∷ l) (d2 ∙ ap (λ (l : List ℕ). get_or block 127 0 ∷ l) d3)
        ∙ ap (λ (k : ℕ). k ∷ get_or block 127 0 ∷ []) s.one ∙ ap (λ (k : ℕ). first 1 (take 126 block) ∷ k ∷ []) s.two in
        sym (take-append-drop 126 block) ∙ ap (λ (l : List ℕ). take 126 block ++ l) back ∙ ap (λ (l : List ℕ). l ++ checks l) front

-- Blocks one after another: written, they are all sound and their cells are found again.
pub blocks-length : (k n : ℕ) (cells : List ℕ) → length cells ≡ 125 * k → length (blocks_from n k cells) ≡ 128 * k
unfolding blocks_from
blocks-length zero n cells h = omega arith
blocks-length (suc k) n cells h =
    let t : length (take 125 cells) ≡ 125 = length-take-le 125 cells (omega arith) in
    let d : length (drop 125 cells) ≡ 125 * k = omega (arith, length-drop 125 cells) in
    omega (
      arith,
      length-append (block_of n (take 125 cells)) (blocks_from (suc n) k (drop 125 cells)),
      block-length n (take 125 cells) t,
      blocks-length k (suc n) (drop 125 cells) d,
    )

pub blocks-sound : (k n : ℕ) (cells : List ℕ) → length cells ≡ 125 * k
    → (sound_from k n (blocks_from n k cells) ≡ k) × (cells_from k n (blocks_from n k cells) ≡ cells)
unfolding blocks_from sound_from cells_from
blocks-sound zero n cells h = (refl, sym (nil-of-length cells (omega arith)))
blocks-sound (suc k) n cells h =
    let t : length (take 125 cells) ≡ 125 = length-take-le 125 cells (omega arith) in
    let d : length (drop 125 cells) ≡ 125 * k = omega (arith, length-drop 125 cells) in
    let b = block_of n (take 125 cells) in
    let rest = blocks_from (suc n) k (drop 125 cells) in
    let l = block-length n (take 125 cells) t in
    let f : take 128 (b ++ rest) ≡ b = take_at b rest 128 l in
    let g : drop 128 (b ++ rest) ≡ rest = drop_at b rest 128 l in
    let s : sound n b ≡ true = block-sound n (take 125 cells) t in
    let c : cells_in b ≡ take 125 cells = block-cells n (take 125 cells) t in
    let r = blocks-sound k (suc n) (drop 125 cells) d in
    (rw (f, s, g) (ap suc r.0), rw (f, s, g, c, r.1) (take-append-drop 125 cells))

pub blocks-words : (k n : ℕ) (cells : List ℕ) → n + k ≤ 2 ^ 32 → AreWords cells → AreWords (blocks_from n k cells)
unfolding blocks_from
blocks-words zero n cells h w = tt
blocks-words (suc k) n cells h w =
    words-both (block_of n (take 125 cells)) (blocks_from (suc n) k (drop 125 cells))
    (block_words n (take 125 cells) (omega arith) (words_take 125 cells w))
    (blocks-words k (suc n) (drop 125 cells) (omega arith) (words-drop 125 cells w))

-- No more are sound than there are; and so many blocks that are all sound are the blocks of their cells.
pub sound-most : (k n : ℕ) (words : List ℕ) → sound_from k n words ≤ k
unfolding sound_from
sound-most zero n words = omega arith
sound-most (suc k) n words = go (sound-most k (suc n) (drop 128 words)) (bool_cases (sound n (take 128 words)))
  where
    go : sound_from k (suc n) (drop 128 words) ≤ k → (sound n (take 128 words) ≡ true) ⊎ (sound n (take 128 words) ≡ false)
        → cond (sound n (take 128 words)) (suc (sound_from k (suc n) (drop 128 words))) 0 ≤ suc k
    go m (inl t) = rw t (omega arith)
    go m (inr t) = rw t (omega arith)

pub cells-size : (k n : ℕ) (words : List ℕ) → length (cells_from k n words) ≡ 125 * sound_from k n words
unfolding sound_from cells_from
cells-size zero n words = omega arith
cells-size (suc k) n words = go (cells-size k (suc n) (drop 128 words)) (bool_cases (sound n (take 128 words)))
  where
    go : length (cells_from k (suc n) (drop 128 words)) ≡ 125 * sound_from k (suc n) (drop 128 words)
        → (sound n (take 128 words) ≡ true) ⊎ (sound n (take 128 words) ≡ false)
        → length (cond (sound n (take 128 words)) (cells_in (take 128 words) ++ cells_from k (suc n) (drop 128 words)) [])
        ≡ 125 * cond (sound n (take 128 words)) (suc (sound_from k (suc n) (drop 128 words))) 0
    go m (inl t) =
        let s = sound-parts n (take 128 words) t in
        let l : length (cells_in (take 128 words)) ≡ 125 =
        length-take-le 125 (drop 1 (take 128 words)) (omega (arith, length-drop 1 (take 128 words), s.size)) in
        rw t (omega (arith, l, length-append (cells_in (take 128 words)) (cells_from k (suc n) (drop 128 words))))
    go m (inr t) = rw t (omega arith)

pub blocks-again : (k n : ℕ) (words : List ℕ) → length words ≡ 128 * k → sound_from k n words ≡ k
    → blocks_from n k (cells_from k n words) ≡ words
unfolding sound_from cells_from blocks_from
blocks-again zero n words h e = sym (nil-of-length words (omega arith))
blocks-again (suc k) n words h e =
    go (blocks-again k (suc n) (drop 128 words) (omega (arith, length-drop 128 words))) (bool_cases (sound n (take 128 words)))
  where
    go : (sound_from k (suc n) (drop 128 words) ≡ k → blocks_from (suc n) k (cells_from k (suc n) (drop 128 words)) ≡ drop 128 words)
        → (sound n (take 128 words) ≡ true) ⊎ (sound n (take 128 words) ≡ false)
        → block_of n (take 125 (cond (sound n (take 128 words)) (cells_in (take 128 words) ++ cells_from k (suc n) (drop 128 words)) []))
        ++ blocks_from (suc n) k (drop 125 (cond (sound n (take 128 words)) (cells_in (take 128 words) ++ cells_from k (suc n) (drop 128 words)) []))
        ≡ words
    go f (inl t) =
        let block = take 128 words in
        let rest = drop 128 words in
        let s = sound-parts n block t in
        let l : length (cells_in block) ≡ 125 = length-take-le 125 (drop 1 block) (omega (arith, length-drop 1 block, s.size)) in
        let e' : suc (sound_from k (suc n) rest) ≡ suc k = rw t at e in
        let again = f (omega (arith, e')) in
        rw (t, take_at (cells_in block) (cells_from k (suc n) rest) 125 l, drop_at (cells_in block) (cells_from k (suc n) rest) 125 l, again)
        (ap (λ (l : List ℕ). l ++ drop 128 words) (sym (sound-is n block t)) ∙ take-append-drop 128 words)
    go f (inr t) = let e' : 0 ≡ suc k = rw t at e in absurd (omega arith)

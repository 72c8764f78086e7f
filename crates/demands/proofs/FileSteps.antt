-- W-211's statements (specs/Files) and the tests of reading (crate filing): the steps that proofs/Files cites.
use Prim.Native.Nat.{ℕ, zero, suc, ◌+◌, ◌-◌, ◌*◌, ◌%◌, ◌≤◌, ◌<◌}
use mathlib.Core.Path.{◌≡◌, refl, sym, ◌∙◌, ap}
use mathlib.Core.Logic.{◌≢◌, ◌⊎◌, inl, inr, by_cases}
use mathlib.Core.Bool.{true, false}
use mathlib.Core.List.{List, [], ◌∷◌}
use native.Mathlib.Decide.{dec_lt}
use native.Mathlib.Omega.{arith}
use lib.Dec.{eqb, ltb}
use lib.ListN.{length, get_or, take, drop, length-append, length-drop, get_or-append}
use lib.Seq.{take_at, drop_at, drop-cons, length-take-le, get_or-take, get_or-drop}
use borrow.Author.Tests.{eq-eqb, eqb-true, eqb-false, ltb-true, ltb-false}
use Rattle.term.proofs.Tests.{bool_cases}
use Rattle.refusal.specs.Refusal.{Refused, refused}
use Rattle.refusal.specs.declared.Reason.TheVariants as reason
use Rattle.refusal.specs.declared.Input.TheVariants as input
use Rattle.refusal.specs.Read.{Read, read, refuse, and_then}
use Rattle.table.specs.Table.{Table, table_of, IsTable}
use Rattle.table.proofs.Accepted.{is-table}
use Rattle.table.proofs.ReadLaws.{not-both}
use Rattle.plan.specs.Check.{plan_of, plan_for}
use Rattle.octets.specs.Octets.{cells_of, bytes_of, AreWords}
use Rattle.octets.proofs.BytesLaws.{cells-back}
use Rattle.blocks.specs.Sums.{checks}
use Rattle.blocks.specs.Blocks.{whole, good, good_cells, block_at, cells_in, sound}
use Rattle.blocks.proofs.BlockLaws.{and_both, words-both, sound-parts, sound-is, sound-most, cells-size, blocks-sound, blocks-words}
use Rattle.blocks.proofs.LookLaws.{block_here, good-next, good-ends}
use Rattle.filing.specs.Files.{stream, needed, filled_up, words_for, file_of, zeros, card, sizes, file_read}
use Rattle.filing.proofs.FileLaws.{filled-size, filled-words}
use Rattle.filing.proofs.WriteLaws.{file-size}
use Rattle.filing.proofs.ReadingLaws.{good-from, no_byte, no_blocks, damaged, other-sizes, not_zeros, all-tests}
use Rattle.demands.specs.Files.{Whole, SoundAt, FirstBad, AllSound, BlockCells, Sized, padding, Padded, table_on, plan_on, FileHolds}
use Rattle.demands.proofs.Cited.{writes, tree-read}
use Rattle.limits.specs.Limits.{most_plan_cells, most_table_cells}

-- A block that is sound by the code's test is sound by 02's words,
pub sound-at : (f : List ℕ) (k : ℕ) → sound k (block_at f k) ≡ true → SoundAt f k
sound-at f k e =
    let b = block_at f k in
    let c = cells_in b in
    let s = sound-parts k b e in
    let h : length c ≡ 125 = length-take-le 125 (drop 1 b) (omega (arith, length-drop 1 b, s.size)) in
    let i = sound-is k b e in
    let front : take 126 b ≡ k ∷ c = ap (take 126) i ∙ take_at (k ∷ c) (checks (k ∷ c)) 126 (omega arith) in
    let back : drop 126 b ≡ checks (k ∷ c) = ap (drop 126) i ∙ drop_at (k ∷ c) (checks (k ∷ c)) 126 (omega arith) in
    record { number = s.number; checked = back ∙ ap checks (sym front) }

-- and one of the file's that is sound by 02's words by the test
pub at-sound : (f : List ℕ) (k : ℕ) → k < whole f → SoundAt f k → sound k (block_at f k) ≡ true
unfolding sound
at-sound f k h s =
    let b = block_at f k in
    let l : length b ≡ 128 = (block_here f k (omega arith)).1 in
    let d : drop 126 b ≡ get_or b 126 0 ∷ drop 127 b = drop-cons b 126 0 (omega arith) in
    let d' : drop 127 b ≡ get_or b 127 0 ∷ drop 128 b = drop-cons b 127 0 (omega arith) in
    let e : get_or b 126 0 ∷ drop 127 b ≡ checks (take 126 b) = sym d ∙ s.checked in
    let one : get_or b 126 0 ≡ get_or (checks (take 126 b)) 0 0 = ap (λ (x : List ℕ). get_or x 0 0) e in
    let e' : get_or b 127 0 ∷ drop 128 b ≡ drop 1 (checks (take 126 b)) = sym d' ∙ ap (drop 1) e in
    let two : get_or b 127 0 ≡ get_or (checks (take 126 b)) 1 0 = ap (λ (x : List ℕ). get_or x 0 0) e' in
    rw (eq-eqb (length b) 128 l, eq-eqb (get_or b 0 0) k s.number, eq-eqb _ _ one, eq-eqb _ _ two)

module _ (f : List ℕ) where
  -- the blocks before the first that is not sound are, and that one is not
  pub good-most : good f 0 ≤ whole f
  good-most = omega (arith, sound-most (whole f - 0) 0 (drop (128 * 0) (cells_of f)))

  pub good-sound : (k : ℕ) → k < good f 0 → sound k (block_at f k) ≡ true
  good-sound k h = go (bool_cases (sound k (block_at f k)))
    where
      go : (sound k (block_at f k) ≡ true) ⊎ (sound k (block_at f k) ≡ false) → sound k (block_at f k) ≡ true
      go (inl t) = t
      go (inr t) =
          let r = good-from f k (omega arith) in
          absurd (let z : ⊥ = omega (arith, r.0, (good-ends f k (omega (arith, good-most)) t).0) in z)

  pub good-stops : good f 0 < whole f → sound (good f 0) (block_at f (good f 0)) ≡ false
  good-stops h = go (bool_cases (sound (good f 0) (block_at f (good f 0))))
    where
      go : (sound (good f 0) (block_at f (good f 0)) ≡ true) ⊎ (sound (good f 0) (block_at f (good f 0)) ≡ false)
          → sound (good f 0) (block_at f (good f 0)) ≡ false
      go (inl t) =
          let r = good-from f (good f 0) (omega arith) in
          absurd (let z : ⊥ = omega (arith, r.0, (good-next f (good f 0) h t).0) in z)
      go (inr t) = t

  -- so blocks that are all sound are counted, and the first bad one is where the count ends
  pub all-counted : (k : ℕ) → k ≤ whole f → ((j : ℕ) → j < k → SoundAt f j) → k ≤ good f 0
  all-counted k h s =
      by_cases (dec_lt (good f 0) k)
      (λ (l : good f 0 < k). not-both (at-sound f (good f 0) (omega arith) (s (good f 0) l)) (good-stops (omega arith)))
      (λ l. omega arith)

  pub first_counted : (k : ℕ) → FirstBad f k → good f 0 ≡ k
  first_counted k x =
      by_cases (dec_lt k (good f 0))
      (λ (l : k < good f 0). absurd (x.bad (sound-at f k (good-sound k l))))
      (λ l. (let a = all-counted k (let w = x.within in omega arith) x.before in omega arith))

-- zeros, as a test and cell by cell
zeros-each : (cells : List ℕ) → zeros cells ≡ true → (k : ℕ) → get_or cells k 0 ≡ 0
unfolding zeros
zeros-each [] e k = refl
zeros-each (c ∷ cells) e zero = eqb-true c 0 (and_both (eqb c 0) (zeros cells) e).0
zeros-each (c ∷ cells) e (suc k) = zeros-each cells (and_both (eqb c 0) (zeros cells) e).1 k

each-zeros : (cells : List ℕ) → ((k : ℕ) → get_or cells k 0 ≡ 0) → zeros cells ≡ true
unfolding zeros
each-zeros [] h = refl
each-zeros (c ∷ cells) h = rw (eq-eqb c 0 (h 0)) (each-zeros cells (λ k. h (suc k)))

other-cell : (cells : List ℕ) → zeros cells ≡ false → (k : ℕ) × (get_or cells k 0 ≢ 0)
unfolding zeros
other-cell [] e = not-both refl e
other-cell (c ∷ cells) e = go (bool_cases (eqb c 0)) (other-cell cells)
  where
    go : (eqb c 0 ≡ true) ⊎ (eqb c 0 ≡ false) → (zeros cells ≡ false → (k : ℕ) × (get_or cells k 0 ≢ 0)) → (k : ℕ) × (get_or (c ∷ cells) k 0 ≢ 0)
    go (inl t) rest = let r = rest (rw t at e) in (suc r.0, r.1)
    go (inr t) rest = (0, eqb-false c 0 t)

-- The tests passed by 02's words, as the laws of reading ask them.
module _ (f : List ℕ) where
  pub some_byte : Whole f → length f ≡ 0 → ⊥
  some_byte w e = let s = w.some in omega arith

  pub every : AllSound f → whole f ≤ good f 0
  every x = all-counted f (whole f) (omega arith) x.sound

  pub sound-all : Whole f → whole f ≤ good f 0 → AllSound f
  sound-all w h = record { blocks = w; sound = λ k l. sound-at f k (good-sound f k (omega arith)) }

  pub block-cells : AllSound f → BlockCells f
  block-cells x =
      let size = cells-size (whole f - 0) 0 (drop (128 * 0) (cells_of f)) in
      record { count = omega (arith, size, every x, good-most f); cell = at }
    where
      at : (k i : ℕ) → k < whole f → i < 125 → get_or (good_cells f 0) (125 * k + i) 0 ≡ get_or (block_at f k) (1 + i) 0
      at k i h l =
          let b = block_at f k in
          let c = cells_in b in
          let s = at-sound f k h (x.sound k h) in
          let n : length c ≡ 125 = length-take-le 125 (drop 1 b) (omega (arith, length-drop 1 b, (sound-parts k b s).size)) in
          let here = (good-from f k (omega (arith, every x))).1 ∙ (good-next f k h s).1 in
          sym (get_or-drop (125 * k) (good_cells f 0) i 0) ∙ ap (λ (r : List ℕ). get_or r i 0) here
          ∙ get_or-append c (good_cells f (k + 1)) 0 i (omega arith) ∙ get_or-take 125 (drop 1 b) i 0 l ∙ get_or-drop 1 b i 0

  pub is-damaged : {k : ℕ} → FirstBad f k → file_read f ≡ refuse (refused reason.Damage input.File k)
  is-damaged {k} x =
      let e = first_counted f k x in
      let l = x.within in
      damaged f (some_byte x.blocks) x.blocks.blocks (omega arith) ∙ ap (λ (j : ℕ). refuse (refused reason.Damage input.File j)) e

  pub is-other-sizes : AllSound f → needed (sizes (good_cells f 0)) ≢ whole f → file_read f ≡ refuse (refused reason.Sizes input.File 0)
  is-other-sizes x d = other-sizes f (some_byte x.blocks) x.blocks.blocks (every x) d

  pub is-not-zero : (k : ℕ) → Sized f → get_or (padding f) k 0 ≢ 0 → file_read f ≡ refuse (refused reason.Padding input.File 0)
  is-not-zero k x d = go (bool_cases (zeros (padding f)))
    where
      go : (zeros (padding f) ≡ true) ⊎ (zeros (padding f) ≡ false) → file_read f ≡ refuse (refused reason.Padding input.File 0)
      go (inl t) = absurd (d (zeros-each (padding f) t k))
      go (inr t) = not_zeros f (some_byte x.all.blocks) x.all.blocks.blocks (every x.all) x.count t

  pub is_read : Padded f → file_read f ≡ and_then (plan_of (table_on f) (plan_on f)) (λ (n : ℕ). read (card (table_on f) (plan_on f)))
  is_read x =
      let s = x.sized in
      all-tests f (some_byte s.all.blocks) s.all.blocks.blocks (every s.all) s.count (each-zeros (padding f) x.zero)

  pub is-refused : {g : Refused} → Padded f → plan_of (table_on f) (plan_on f) ≡ refuse g → file_read f ≡ refuse g
  is-refused x e = is_read x ∙ ap (λ (r : Read ℕ). and_then r (λ (n : ℕ). read (card (table_on f) (plan_on f)))) e

  pub is-card : {t p : List ℕ} → FileHolds f t p → file_read f ≡ read (card t p)
  is-card {t} {p} x =
      let e = tree-read x.accepted x.tree x.written in
      let q = rw (x.table_is, x.plan-is) at (is_read x.padded) in
      q ∙ ap (λ (r : Read ℕ). and_then r (λ (n : ℕ). read (card t p))) e

-- a table's refusal is the check's
pub table-first : (t p : List ℕ) {g : Refused} → table_of t ≡ refuse g → plan_of t p ≡ refuse g
table-first t p e = ap (λ (r : Read Table). and_then r (λ (T : Table). plan_for T p)) e

-- What reading says of any bytes, with the words of 02 for it.
pub data Looked (f : List ℕ) : Type 0 where
  as-blocks : (length f ≡ 0) ⊎ (length f % 512 ≢ 0) → file_read f ≡ refuse (refused reason.Blocks input.File 0) → Looked f
  as-damage : FirstBad f (good f 0) → file_read f ≡ refuse (refused reason.Damage input.File (good f 0)) → Looked f
  as-sizes : AllSound f → needed (sizes (good_cells f 0)) ≢ whole f → file_read f ≡ refuse (refused reason.Sizes input.File 0) → Looked f
  as-padding : (k : ℕ) → Sized f → get_or (padding f) k 0 ≢ 0 → file_read f ≡ refuse (refused reason.Padding input.File 0) → Looked f
  as-table : (g : Refused) → Padded f → table_of (table_on f) ≡ refuse g → file_read f ≡ refuse g → Looked f
  as-plan : (g : Refused) {w : ℕ} {rows : List (List ℕ)} → Padded f → IsTable (table_on f) w rows → plan_of (table_on f) (plan_on f) ≡ refuse g
      → file_read f ≡ refuse g → Looked f
  as-card : FileHolds f (table_on f) (plan_on f) → Looked f

module _ (f : List ℕ) where
  by-plan : Padded f → Looked f
  by-plan x = go (table_of (table_on f)) refl
    where
      then : (T : Table) → table_of (table_on f) ≡ read T → (r : Read ℕ) → plan_of (table_on f) (plan_on f) ≡ r → Looked f
      then T e (read n) q =
          let i = is-table (table_on f) e in
          let s = writes (table_on f) (plan_on f) i n q in
          as-card (record {
            padded = x;
            table_is = refl;
            plan-is = refl;
            width = T.width;
            rows = T.rows;
            accepted = i;
            tree = s.tree;
            written = s.cells;
          })
      then T e (refuse g) q = as-plan g x (is-table (table_on f) e) q (is-refused f x q)

      go : (r : Read Table) → table_of (table_on f) ≡ r → Looked f
      go (read T) e = then T e (plan_of (table_on f) (plan_on f)) refl
      go (refuse g) e = as-table g x e (is-refused f x (table-first (table_on f) (plan_on f) e))

  by-padding : Sized f → Looked f
  by-padding x = go (bool_cases (zeros (padding f)))
    where
      go : (zeros (padding f) ≡ true) ⊎ (zeros (padding f) ≡ false) → Looked f
      go (inl t) = by-plan (record { sized = x; zero = zeros-each (padding f) t })
      go (inr t) = let o = other-cell (padding f) t in as-padding o.0 x o.1 (is-not-zero f o.0 x o.1)

  by-sizes : AllSound f → Looked f
  by-sizes x = go (bool_cases (eqb (needed (sizes (good_cells f 0))) (whole f)))
    where
      go : (eqb (needed (sizes (good_cells f 0))) (whole f) ≡ true) ⊎ (eqb (needed (sizes (good_cells f 0))) (whole f) ≡ false) → Looked f
      go (inl t) = by-padding (record { all = x; count = eqb-true (needed (sizes (good_cells f 0))) (whole f) t })
      go (inr t) = let d = eqb-false (needed (sizes (good_cells f 0))) (whole f) t in as-sizes x d (is-other-sizes f x d)

  by_blocks : Whole f → Looked f
  by_blocks w = go (bool_cases (ltb (good f 0) (whole f)))
    where
      go : (ltb (good f 0) (whole f) ≡ true) ⊎ (ltb (good f 0) (whole f) ≡ false) → Looked f
      go (inl t) =
          let l = ltb-true (good f 0) (whole f) t in
          let x : FirstBad f (good f 0) = record {
            blocks = w;
            within = l;
            before = λ j h. sound-at f j (good-sound f j h);
            bad = λ s. not-both (at-sound f (good f 0) l s) (good-stops f l);
          } in
          as-damage x (is-damaged f x)
      go (inr t) = by-sizes (sound-all f w (ltb-false (good f 0) (whole f) t))

  pub looked : Looked f
  looked = go (bool_cases (eqb (length f) 0)) (bool_cases (eqb (length f % 512) 0))
    where
      go : (eqb (length f) 0 ≡ true) ⊎ (eqb (length f) 0 ≡ false) → (eqb (length f % 512) 0 ≡ true) ⊎ (eqb (length f % 512) 0 ≡ false) → Looked f
      go (inl a) b = let e = eqb-true (length f) 0 a in as-blocks (inl e) (no_byte f e)
      go (inr a) (inl b) =
          let s = eqb-false (length f) 0 a in
          by_blocks (record { some = at_least (length f) s; blocks = eqb-true (length f % 512) 0 b })
        where
          at_least : (n : ℕ) → n ≢ 0 → 1 ≤ n
          at_least zero d = absurd (d refl)
          at_least (suc n) d = omega arith
      go (inr a) (inr b) = let d = eqb-false (length f % 512) 0 b in as-blocks (inr d) (no_blocks f d)

-- the cells of a written file
pub written-cells : (t p : List ℕ) → AreWords t → AreWords p → (length t ≤ most_table_cells) × (length p ≤ most_plan_cells)
    → (good_cells (file_of t p) 0 ≡ filled_up (stream t p)) × (whole (file_of t p) ≡ needed (length (stream t p)))
written-cells t p v w z =
    let s = stream t p in
    let k = needed (length s) in
    let l : length s ≡ 2 + (length t + length p) = omega (arith, length-append t p) in
    let ws : AreWords s = (omega arith, (omega arith, words-both t p v w)) in
    let size : length (file_of t p) ≡ 512 * k = file-size t p z in
    let back : cells_of (bytes_of (words_for s)) ≡ words_for s =
    cells-back (words_for s) (blocks-words k 0 (filled_up s) (omega arith) (filled-words s ws)) in
    let wh : whole (file_of t p) - 0 ≡ k = omega arith in
    (rw (wh, back) (blocks-sound k 0 (filled_up s) (filled-size s)).1, omega arith)

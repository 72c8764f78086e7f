-- The rows of a file, as the code comes to them.
use Prim.Native.Nat.{ℕ, zero, suc, ◌+◌, ◌-◌, ◌*◌, ◌^◌, ◌≤◌, ◌<◌, min}
use mathlib.Core.Path.{◌≡◌, refl, sym, ◌∙◌, ap}
use mathlib.Core.Bool.{Bool, true, false, ◌||◌}
use mathlib.Core.List.{List, [], ◌∷◌, flatten}
use native.Mathlib.Omega.{arith}
use lib.Dec.{ltb}
use lib.ListN.{length, get_or, set, take, drop, length-append, length-set, length-take}
use borrow.Author.Tests.{ne_eqb}
use Rattle.std.specs.Prelude.{Ok}
use Rattle.refusal.specs.declared.Reason.TheVariants as reason
use Rattle.octets.specs.Octets.{cells_of}
use Rattle.blocks.specs.Blocks.{whole, good, good_cells, Found}
use Rattle.blocks.proofs.BlockLaws.{sound-most}
use Rattle.filing.specs.code.Front.{Front}
use Rattle.filing.proofs.ReadingLaws.{front-found}
use Rattle.salvaging.specs.Kept.{kept_from}
use Rattle.salvaging.specs.Salvage.{width, count, kept, kept_cells}
use Rattle.salvaging.proofs.KeptLaws.{kept-are, no_rows}
use Rattle.salvaging.proofs.TopLaws.{Head, head-is, no_block, no-width, no-count, a-head, cell-is, rows_cut, no_cells, table-left, flat-front}
use Rattle.mending.specs.Mending.{Keeps}
use Rattle.mending.specs.declared.Kept.{Kept}
use Rattle.salvage.specs.code.Saving.{Fronted, nothing_had, RowsHad, no-head, no_row, had}

-- rows that are kept lie within the cells, and are at most so many
pub keeps-within : (w count m : ℕ) (xs : List ℕ) {k : Kept} → Keeps (kept_from w (min count 64) [] (take m xs)) k → (k.rows ≤ 64) × (k.end ≤ m)
keeps-within w count m xs {k} e =
    let a = kept-are w (min count 64) [] (take m xs) in
    let F = flatten (kept_from w (min count 64) [] (take m xs)) in
    let l : k.end ≤ length (take m xs) = omega (arith, e.last, ap length a.cells, length-append F a.rest) in
    (most (min count 64) refl (omega (arith, e.many, a.few)), part (length xs) l (length-take m xs))
  where
    most : (n : ℕ) → n ≡ min count 64 → k.rows ≤ n → k.rows ≤ 64
    most n e h = omega arith

    part : (n : ℕ) {l : ℕ} → k.end ≤ l → l ≡ min m n → k.end ≤ m
    part n h e = omega arith

-- the blocks of a file are too few for a sum of their cells to overflow
pub few-blocks : (file : List ℕ) (from : ℕ) {n : ℕ} → n ≡ good file from → length file < 2 ^ 64 → n < 2 ^ 55
few-blocks file from e h = omega (arith, e, sound-most (whole file - from) from (drop (128 * from) (cells_of file)))

-- a file with a head
module _ {file cells : List ℕ} {blocks : ℕ} (z : Fronted file cells blocks) where
  head : Head file
  head = head-is file z.head

  module _ {s m : ℕ} (es : s ≡ get_or cells 0 0) (em : m ≡ min (min (2 + s) (125 * blocks)) 2052) where
    size : s ≡ get_or (good_cells file 0) 0 0
    size = es ∙ cell-is file cells z.fits head.some 0 (omega arith)

    least : m ≡ min (min (2 + get_or (good_cells file 0) 0 0) (125 * good file 0)) 2052
    least =
        em ∙ ap (λ (j : ℕ). min (min (2 + j) (125 * blocks)) 2052) size
        ∙ ap (λ (j : ℕ). min (min (2 + get_or (good_cells file 0) 0 0) (125 * j)) 2052) z.many

    pub short-size : m < 4 → RowsHad file cells (nothing_had reason.None)
    short-size h =
        let b : 1 ≤ blocks = omega (arith, z.many, head.some) in
        no_row z.head (no_cells file cells z.fits head.some z.head (omega (arith, below (2 + s) blocks b em h, size)))
      where
        below : (a b : ℕ) {m : ℕ} → 1 ≤ b → m ≡ min (min a (125 * b)) 2052 → m < 4 → a < 4
        below a b l e h = omega arith

    module _ (four : 4 ≤ m) {w c : ℕ} (ew : w ≡ get_or cells 2 0) (ec : c ≡ get_or cells 3 0) {k : Kept}
        (keeps : Keeps (kept_from w (min c 64) [] (take (m - 4) (drop 4 cells))) k) where
      K : kept_from w (min c 64) [] (take (m - 4) (drop 4 cells)) ≡ kept file
      K =
          ap (λ (x : ℕ). kept_from x (min c 64) [] (take (m - 4) (drop 4 cells))) ew
          ∙ ap (λ (x : ℕ). kept_from (get_or cells 2 0) (min x 64) [] (take (m - 4) (drop 4 cells))) ec
          ∙ rows_cut file cells z.fits head.some m least four z.head

      many : k.rows ≡ length (kept file)
      many = keeps.many ∙ ap length K

      last : k.end ≡ length (flatten (kept file))
      last = keeps.last ∙ ap (λ (l : List (List ℕ)). length (flatten l)) K

      pub none_kept : k.rows ≡ 0 → RowsHad file cells (nothing_had reason.None)
      none_kept e = no_row z.head (no_rows (kept file) (omega (arith, many)))

      flat : take k.end (drop 4 cells) ≡ flatten (kept file)
      flat =
          ap (λ (j : ℕ). take j (drop 4 cells)) keeps.last
          ∙ flat-front w (min c 64) (drop 4 cells) (m - 4) ∙ ap flatten K

      pub rows-kept : length cells ≡ 2052 → {p : ℕ} → (p ≡ get_or cells 1 0) × (p < 2 ^ 32) → (k.rows ≡ 0 → ⊥) → 4 + k.end ≤ length cells
          → RowsHad file (set cells 3 k.rows)
          (Ok (record { good = blocks; count = c; rows = k.rows; end = 4 + k.end; start = 2 + s; plans = p }))
      rows-kept l {p} ep d fit =
          let at = cell-is file cells z.fits head.some in
          let t : take (4 + k.end - 2) (drop 2 (set cells 3 k.rows)) ≡ kept_cells file =
          table-left cells k.rows k.end (omega arith) ∙ ap (λ (x : ℕ). x ∷ k.rows ∷ take k.end (drop 4 cells)) (at 2 (omega arith))
          ∙ ap (λ (n : ℕ). width file ∷ n ∷ take k.end (drop 4 cells)) many ∙ ap (λ (l : List ℕ). width file ∷ length (kept file) ∷ l) flat in
          had (record { good = blocks; count = c; rows = k.rows; end = 4 + k.end; start = 2 + s; plans = p })
          (record {
            head = z.head;
            some = above (length (kept file)) (λ e. d (many ∙ e));
            good = z.many;
            count = ec ∙ at 3 (omega arith);
            rows = many;
            end = omega (arith, last);
            start = ap (λ (j : ℕ). 2 + j) size;
            plans = ep.0 ∙ at 1 (omega arith);
            narrow = ep.1;
          })
          (omega (arith, length-set cells 3 k.rows)) t
        where
          above : (n : ℕ) → (n ≡ 0 → ⊥) → 1 ≤ n
          above zero d = absurd (d refl)
          above (suc n) d = omega arith

-- the head of any file
module _ {file old new : List ℕ} {k : ℕ} (size : length old ≡ 2052) (found : Found file 0 old new k) where
  front : Front 2052 new (good_cells file 0)
  front = front-found old new (good_cells file 0) size found.put

  pub none-sound : k ≡ 0 → RowsHad file new (nothing_had reason.Head)
  none-sound e = no-head (no_block file (sym found.many ∙ e))

  module _ (some : k ≡ 0 → ⊥) where
    one : 1 ≤ good file 0
    one = above k some found.many
      where
        above : (n : ℕ) {m : ℕ} → (n ≡ 0 → ⊥) → n ≡ m → 1 ≤ m
        above zero d e = absurd (d refl)
        above (suc n) d e = omega arith

    at : {i w : ℕ} → i < 4 → w ≡ get_or new i 0 → w ≡ get_or (good_cells file 0) i 0
    at {i} h e = e ∙ cell-is file new front one i h

    pub bad-width : {w : ℕ} {b : Bool} → w ≡ get_or new 2 0 → b ≡ (ltb w 1 || ltb 8 w) → b ≡ true → RowsHad file new (nothing_had reason.Head)
    bad-width ew eb t = no-head (no-width file (ap (λ (n : ℕ). ltb n 1 || ltb 8 n) (sym (at (omega arith) ew)) ∙ sym eb ∙ t))

    pub bad-count : {w : ℕ} {b : Bool} → w ≡ get_or new 3 0 → b ≡ (ltb w 1 || ltb 64 w) → b ≡ true → RowsHad file new (nothing_had reason.Head)
    bad-count ew eb t = no-head (no-count file (ap (λ (n : ℕ). ltb n 1 || ltb 64 n) (sym (at (omega arith) ew)) ∙ sym eb ∙ t))

    pub fronted : {w c : ℕ} {b d : Bool} → w ≡ get_or new 2 0 → b ≡ (ltb w 1 || ltb 8 w) → b ≡ false → c ≡ get_or new 3 0
        → d ≡ (ltb c 1 || ltb 64 c) → d ≡ false → Fronted file new k
    fronted ew eb t ec ed u =
        record {
          fits = front;
          many = found.many;
          head = a-head file (ne_eqb (good file 0) 0 (λ e. omega (arith, one)))
              (ap (λ (n : ℕ). ltb n 1 || ltb 8 n) (sym (at (omega arith) ew)) ∙ sym eb ∙ t)
              (ap (λ (n : ℕ). ltb n 1 || ltb 64 n) (sym (at (omega arith) ec)) ∙ sym ed ∙ u);
        }

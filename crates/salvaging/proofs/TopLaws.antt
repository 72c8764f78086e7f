-- The top of a file, in the code's steps: its head, and the rows from as many cells as 64 rows can have.
use Prim.Native.Nat.{ℕ, zero, suc, ◌+◌, ◌-◌, ◌*◌, ◌≤◌, ◌<◌, min}
use mathlib.Core.Path.{◌≡◌, refl, sym, ◌∙◌, ap}
use mathlib.Core.Logic.{◌⊎◌, inl, inr}
use mathlib.Core.Bool.{true, false, ◌||◌}
use mathlib.Core.List.{List, [], ◌∷◌, ◌++◌, flatten, append-nil}
use native.Mathlib.Nat.{min-eq_left}
use native.Mathlib.Omega.{arith}
use lib.Dec.{eqb, ltb}
use lib.ListN.{length, get_or, set, take, drop, length-append, length-drop, length-take, take-append-drop, drop_of_length-le}
use lib.Seq.{take_all, take_at, take-take, take-append-add, drop-drop}
use borrow.Author.Tests.{eq-eqb, eqb-false, ltb-true, ltb-false}
use Rattle.term.proofs.Tests.{bool_cases}
use Rattle.term.proofs.Lists.{slice-take}
use Rattle.table.specs.Table.{terms_from}
use Rattle.table.proofs.ReadLaws.{inside}
use Rattle.table.proofs.Accepted.{table-short}
use Rattle.octets.specs.Octets.{cells_of}
use Rattle.blocks.specs.Blocks.{whole, good, good_cells}
use Rattle.blocks.proofs.BlockLaws.{cells-size}
use Rattle.filing.specs.Files.{table_size, table_part}
use Rattle.filing.specs.code.Front.{Front}
use Rattle.filing.proofs.FileLaws.{or-both}
use Rattle.filing.proofs.ReadingLaws.{or-true, front_at, front-part, taken}
use Rattle.salvaging.specs.Kept.{kept_from}
use Rattle.salvaging.specs.Salvage.{width, count, no_head, kept}
use Rattle.salvaging.proofs.KeptLaws.{Starts, kept-are, kept_table, longest, kept-cut, no_rows}
use Rattle.limits.specs.Limits.{most_rows_cells}

-- two lists, each at the front of the other
both-start : (a b : List (List ℕ)) → Starts a b → Starts b a → a ≡ b
both-start a b s t =
    let n : length s.more ≡ 0 =
    omega (arith, ap length s.both, length-append a s.more, ap length t.both, length-append b t.more) in
    sym (append-nil a) ∙ ap (λ (l : List (List ℕ)). a ++ l) (sym (no_rows s.more n)) ∙ s.both

-- kept rows have as many cells as a table at most
module _ (w left : ℕ) (xs : List ℕ) (bounds : (1 ≤ w) × (w ≤ 8)) (few : left ≤ 64) where
  abbrev K : List (List ℕ)
  K = kept_from w left [] xs

  few-kept : length (flatten K) ≤ most_rows_cells
  unfolding flatten
  few-kept = go (bool_cases (ltb 0 (length K)))
    where
      go : (ltb 0 (length K) ≡ true) ⊎ (ltb 0 (length K) ≡ false) → length (flatten K) ≤ most_rows_cells
      go (inl t) = omega (arith, table-short (w ∷ length K ∷ flatten K) (kept_table w left xs bounds few (ltb-true 0 (length K) t)))
      go (inr t) =
          let z : K ≡ [] = no_rows K (omega (arith, ltb-false 0 (length K) t)) in
          omega (arith, ap (λ (l : List (List ℕ)). length (flatten l)) z)

  -- so the cells after them do not matter
  kept-short : kept_from w left [] (take most_rows_cells xs) ≡ K
  kept-short =
      let k = kept-are w left [] xs in
      let n = length (flatten K) in
      let m : most_rows_cells ≡ n + (most_rows_cells - n) = omega (arith, few-kept) in
      let e : take most_rows_cells xs ≡ flatten K ++ take (most_rows_cells - n) k.rest =
      ap (take most_rows_cells) (sym k.cells) ∙ ap (λ (j : ℕ). take j (flatten K ++ k.rest)) m ∙ take-append-add (flatten K) k.rest (most_rows_cells - n) in
      let s = longest w left [] K (take (most_rows_cells - n) k.rest) k.are.each k.are.apart k.are.distinct k.few in
      let c = kept-cut w left (take most_rows_cells xs) (drop most_rows_cells xs) in
      both-start (kept_from w left [] (take most_rows_cells xs)) K
      (record { more = c.more; both = c.both ∙ ap (kept_from w left []) (take-append-drop most_rows_cells xs) })
      (record { more = s.more; both = s.both ∙ ap (kept_from w left []) (sym e) })

-- of no cells no row is kept
kept-nothing : (w left : ℕ) → 1 ≤ w → kept_from w left [] [] ≡ []
unfolding kept_from terms_from
kept-nothing w zero h = refl
kept-nothing zero (suc left) h = absurd (omega arith)
kept-nothing (suc w) (suc left) h = refl

-- the head, test by test
module _ (f : List ℕ) where
  pub no_block : good f 0 ≡ 0 → no_head f ≡ true
  no_block e = rw (eq-eqb (good f 0) 0 e)

  pub no-width : (ltb (width f) 1 || ltb 8 (width f)) ≡ true → no_head f ≡ true
  no-width e = rw e (or-true (eqb (good f 0) 0))

  pub no-count : (ltb (count f) 1 || ltb 64 (count f)) ≡ true → no_head f ≡ true
  no-count e = rw (e, or-true (ltb (width f) 1 || ltb 8 (width f))) (or-true (eqb (good f 0) 0))

  pub a-head : eqb (good f 0) 0 ≡ false → (ltb (width f) 1 || ltb 8 (width f)) ≡ false → (ltb (count f) 1 || ltb 64 (count f)) ≡ false
      → no_head f ≡ false
  a-head a b c = rw (a, b, c)

  -- and what it says
  pub record Head : Type 0 where
    pub some : 1 ≤ good f 0
    pub columns : (1 ≤ width f) × (width f ≤ 8)
    pub rows : (1 ≤ count f) × (count f ≤ 64)

  pub head-is : no_head f ≡ false → Head
  head-is e =
      let a = or-both (eqb (good f 0) 0) _ e in
      let b = or-both (ltb (width f) 1 || ltb 8 (width f)) _ a.1 in
      record { some = above (good f 0) (eqb-false (good f 0) 0 a.0); columns = inside (width f) 1 8 b.0; rows = inside (count f) 1 64 b.1 }
    where
      above : (n : ℕ) → (n ≡ 0 → ⊥) → 1 ≤ n
      above zero d = absurd (d refl)
      above (suc n) d = omega arith

-- the least of three numbers, and what is taken by it
three : (m a b : ℕ) → m ≡ min (min a b) 2052 → (m ≤ a) × (m ≤ b) × (m ≤ 2052)
three m a b e = (omega arith, omega arith, omega arith)

four-less : (k t l : ℕ) → 4 + k ≡ min (min (4 + t) (4 + l)) 2052 → k ≡ min (min t most_rows_cells) l
four-less k t l e = omega arith

not_more : (j n : ℕ) {k : ℕ} → k ≡ min j n → k ≤ n
not_more j n e = omega arith

take-cut : (k j : ℕ) (xs : List ℕ) → k ≡ min j (length xs) → take k xs ≡ take j xs
take-cut k j xs e = taken k j (length xs) xs e ∙ take_all (length xs) (take j xs) (not_more j (length xs) (length-take j xs))

module _ (f cells : List ℕ) (fits : Front 2052 cells (good_cells f 0)) (some : 1 ≤ good f 0) where
  abbrev G : List ℕ
  G = good_cells f 0

  size : length G ≡ 125 * good f 0
  size = cells-size (whole f - 0) 0 (drop (128 * 0) (cells_of f))

  pub cell-is : (i : ℕ) → i < 4 → get_or cells i 0 ≡ get_or G i 0
  cell-is i h = front_at cells G fits i (omega arith) (omega (arith, size))

  module _ (m : ℕ) (least : m ≡ min (min (2 + table_size G) (125 * good f 0)) 2052) (four : 4 ≤ m) where
    cut : take (m - 4) (drop 4 cells) ≡ take most_rows_cells (drop 2 (table_part G))
    cut =
        let t = table_size G - 2 in
        let X = drop 4 G in
        let b = three m (2 + table_size G) (125 * good f 0) least in
        let k4 : 4 + (m - 4) ≡ m = omega arith in
        let t4 : 2 + table_size G ≡ 4 + t = omega (arith, b) in
        let l4 : 125 * good f 0 ≡ 4 + length X = omega (arith, b, length-drop 4 G, size) in
        let e : 4 + (m - 4) ≡ min (min (4 + t) (4 + length X)) 2052 =
        k4 ∙ least ∙ ap (λ (j : ℕ). min (min j (125 * good f 0)) 2052) t4 ∙ ap (λ (j : ℕ). min (min (4 + t) j) 2052) l4 in
        let n : 2 + t ≡ table_size G = omega arith in
        let p : drop 2 (table_part G) ≡ take t X =
        ap (λ (j : ℕ). drop 2 (take j (drop 2 G))) (sym n) ∙ slice-take 2 t (drop 2 G) ∙ ap (take t) (drop-drop 2 2 G) in
        front-part cells G fits 4 (m - 4) (omega (arith, b)) (omega (arith, b, size))
        ∙ take-cut (m - 4) (min t most_rows_cells) X (four-less (m - 4) t (length X) e) ∙ taken (min t most_rows_cells) t most_rows_cells X refl
        ∙ ap (take most_rows_cells) (sym p)

    -- the rows that are kept, from the cells that the code hands over
    pub rows_cut : no_head f ≡ false → kept_from (get_or cells 2 0) (min (get_or cells 3 0) 64) [] (take (m - 4) (drop 4 cells)) ≡ kept f
    rows_cut head =
        let h = head-is f head in
        let w = cell-is 2 (omega arith) in
        let c : min (get_or cells 3 0) 64 ≡ count f =
        ap (λ (j : ℕ). min j 64) (cell-is 3 (omega arith)) ∙ min-eq_left h.rows.1 in
        rw (w, c, cut) (kept-short (width f) (count f) (drop 2 (table_part G)) h.columns h.rows.1)

  -- a table size below 2 keeps none
  pub no_cells : no_head f ≡ false → 2 + table_size G < 4 → kept f ≡ []
  no_cells head h =
      let l = less (table_size G) (length (drop 2 G)) h (length-take (table_size G) (drop 2 G)) in
      let z : drop 2 (table_part G) ≡ [] = drop_of_length-le (table_part G) l in
      ap (kept_from (width f) (count f) []) z ∙ kept-nothing (width f) (count f) (head-is f head).columns.0
    where
      less : (t n : ℕ) {l : ℕ} → 2 + t < 4 → l ≡ min t n → l ≤ 2
      less t n h e = omega arith

-- the table that is left in the cells, once the number of rows is put for the count
pub table-left : (cells : List ℕ) (n k : ℕ) → 4 ≤ length cells
    → take (4 + k - 2) (drop 2 (set cells 3 n)) ≡ get_or cells 2 0 ∷ n ∷ take k (drop 4 cells)
table-left [] n k h = absurd (omega arith)
table-left (a ∷ []) n k h = absurd (omega arith)
table-left (a ∷ b ∷ []) n k h = absurd (omega arith)
table-left (a ∷ b ∷ c ∷ []) n k h = absurd (omega arith)
table-left (a ∷ b ∷ c ∷ d ∷ cells) n k h = let z : 4 + k - 2 ≡ suc (suc k) = omega arith in rw z refl

-- the cells of kept rows, once more from the list that they were read from
pub flat-front : (w left : ℕ) (xs : List ℕ) (m : ℕ)
    → take (length (flatten (kept_from w left [] (take m xs)))) xs ≡ flatten (kept_from w left [] (take m xs))
flat-front w left xs m =
    let k = kept-are w left [] (take m xs) in
    let F = flatten (kept_from w left [] (take m xs)) in
    let l : length F ≤ m = within (length F) (length k.rest) m (length xs) (ap length k.cells ∙ length-take m xs) (length-append F k.rest) in
    sym (take-take (length F) m xs l) ∙ ap (take (length F)) (sym k.cells) ∙ take_at F k.rest (length F) refl
  where
    within : (a b m n : ℕ) {c : ℕ} → c ≡ min m n → c ≡ a + b → a ≤ m
    within a b m n e g = omega arith

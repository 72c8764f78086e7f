-- The names of a goal, looked up one after another, and its cells: law by law, in the code's own form.
use Prim.Native.Nat.{ℕ, zero, suc, ◌+◌, ◌%◌, ◌^◌, ◌≤◌, ◌<◌}
use mathlib.Core.Path.{◌≡◌, refl, sym, ap, ◌∙◌}
use mathlib.Core.Bool.{true, false}
use mathlib.Core.List.{List, [], ◌∷◌, ◌++◌}
use native.Mathlib.Omega.{arith}
use native.Mathlib.Numerals.{add-one}
use lib.ListN.{length, get_or, drop, length-set, length-map, drop_of_length-le}
use lib.Seq.{drop-cons, sets, sets-eq}
use borrow.Author.Tests.{lt-ltb, le-ltb, ne_eqb}
use Rattle.cell.specs.Cell.{name_cell, Values, values_at, values_of}
use Rattle.cell.specs.declared.Shape.{Shape}
use Rattle.cell.specs.declared.Shape.TheVariants.{Name}
use Rattle.cell.proofs.CellLaws.{values-small}
use Rattle.cell.specs.Same.{same}
use Rattle.grammar.specs.Numbering.{Words}
use Rattle.termtext.specs.Saying.{word_in, words_in}
use Rattle.goaltext.specs.code.Steps.{NumberIs, listed, fresh}
use Rattle.goaltext.specs.declared.names.Numbered.{Numbered}
use Rattle.termtext.specs.code.Renumber.{word_number, numbers_from, new_ones, new_cell, new_cells}
use Rattle.termtext.proofs.RenumberLaws.{new-listed, new-first}
use Rattle.term.proofs.Lists.{store-next}

pub words-many : (t names : List ℕ) → length (words_in t names) ≡ length names
words-many t names = length-map names (word_in t)

words-drop : (t names : List ℕ) (i : ℕ) → i < length names
    → words_in t (drop i names) ≡ word_in t (get_or names i 0) ∷ words_in t (drop (i + 1) names)
words-drop t names i h = rw (drop-cons names i 0 h, add-one i)

-- A WORD LOOKED UP
module _ (t names w : List ℕ) (i : ℕ) where
  pub find-here : i < length names → same w (word_in t (get_or names i 0)) ≡ true → word_number w (words_in t (drop i names)) ≡ 0
  unfolding word_number
  find-here h e = rw (words-drop t names i h, e)

  pub find-on : i < length names → same w (word_in t (get_or names i 0)) ≡ false
      → word_number w (words_in t (drop i names)) ≡ suc (word_number w (words_in t (drop (i + 1) names)))
  unfolding word_number
  find-on h e = rw (words-drop t names i h, e)

  pub find_none : length names ≤ i → word_number w (words_in t (drop i names)) ≡ 0
  unfolding word_number
  find_none h = rw (drop_of_length-le names {i = i} h)

-- ONE NAME OF THE LIST, looked up: what is left of the numbers and of the new names
module _ (words : Words) (whole list : List ℕ) where
  abbrev pub numbers_left : (count i : ℕ) → List ℕ
  numbers_left count i = numbers_from words count (words_in whole (drop i list))

  abbrev pub news_left : ℕ → List ℕ
  news_left i = new_ones (word_in whole) words (drop i list)

  module _ (count i : ℕ) {known k : ℕ} (h : i < length list) (e : k ≡ word_number (word_in whole (get_or list i 0)) words)
      (f : known ≡ length words) where
    abbrev name : ℕ
    name = get_or list i 0

    pub numbers-next : {new new' : List ℕ} {r : Numbered} → NumberIs known k name count new new' r
        → numbers_left count i ≡ r.number ∷ numbers_left r.count (i + 1)
    unfolding numbers_from
    numbers-next (listed l) = rw (words-drop whole list i h, ← e, lt-ltb k (length words) (omega arith))
    numbers-next (fresh l) = rw (words-drop whole list i h, ← e, le-ltb k (length words) (omega arith), add-one count, f)

    -- and they are stored, and counted
    pub news-next : {new new' fin : List ℕ} {r : Numbered} {all : ℕ} → NumberIs known k name count new new' r
        → sets new count (news_left i) ≡ fin → count + length (news_left i) ≡ all
        → (sets new' r.count (news_left (i + 1)) ≡ fin) × (r.count + length (news_left (i + 1)) ≡ all)
    news-next {new} (listed l) s m =
        let z : news_left i ≡ news_left (i + 1) = rw (drop-cons list i 0 h, add-one i)
        (new-listed (word_in whole) words name (drop (suc i) list) (omega (arith, e, f, l))) in
        (ap (sets new count) (sym z) ∙ s, ap (λ (xs : List ℕ). count + length xs) (sym z) ∙ m)
    news-next {new} {fin = fin} (fresh l) s m =
        let z : news_left i ≡ name ∷ news_left (i + 1) = rw (drop-cons list i 0 h, add-one i)
        (new-first (word_in whole) words name (drop (suc i) list) (omega (arith, e, f, l))) in
        (store-next new fin (news_left i) (news_left (i + 1)) count name z s, omega (arith, ap length z, m))

  pub numbers-none : (count i : ℕ) → length list ≤ i → numbers_left count i ≡ []
  unfolding numbers_from
  numbers-none count i h = rw (drop_of_length-le list {i = i} h)

  pub news-none : (i : ℕ) → length list ≤ i → news_left i ≡ []
  unfolding new_ones
  news-none i h = rw (drop_of_length-le list {i = i} h)

-- ONE CELL
module _ (numbers : List ℕ) (c : ℕ) (s : Shape) (v : values_of s ≡ values_at c) where
  pub cell-kept : {z : Shape} → s ≡ z → ((values_of z).kind ≡ 1 → ⊥) → c ≡ new_cell numbers c
  unfolding new_cell
  cell-kept {z} e n =
      let k : (values_at c).kind ≡ (values_of z).kind = ap (λ (x : Values). x.kind) (sym v ∙ ap values_of e) in
      rw (k, ne_eqb (values_of z).kind 1 n)

  pub cell-named : (a n : ℕ) {x r : ℕ} → s ≡ Name a n → x ≡ get_or numbers n 0 → r ≡ name_cell (a % 2 ^ 3) (x % 2 ^ 16) → r ≡ new_cell numbers c
  unfolding new_cell
  cell-named a n {x} {r} e f g =
      let same' : values_at c ≡ values_of (Name a n) = sym v ∙ ap values_of e in
      let few = (values-small c).0 in
      let z : a % 2 ^ 3 ≡ a = omega (arith, few, ap (λ (y : Values). y.args) same') in
      rw (same', ← f) (g ∙ ap (λ (b : ℕ). name_cell b (x % 65536)) z)

-- ALL CELLS
module _ (numbers row : List ℕ) (i : ℕ) where
  pub cells-next : i < length row → new_cells numbers (drop i row) ≡ new_cell numbers (get_or row i 0) ∷ new_cells numbers (drop (i + 1) row)
  cells-next h = rw (drop-cons row i 0 h, add-one i)

  pub cells-none : length row ≤ i → new_cells numbers (drop i row) ≡ []
  cells-none h = rw (drop_of_length-le row {i = i} h)

pub cells-many : (numbers row : List ℕ) → length (new_cells numbers row) ≡ length row
cells-many numbers row = length-map row (new_cell numbers)

-- stored at the front of a room
pub stored-front : (xs room : List ℕ) → length xs ≤ length room → sets room 0 xs ≡ xs ++ drop (length xs) room
stored-front xs room h =
    let e : 0 + length xs ≡ length xs = omega arith in
    sets-eq xs room 0 (omega arith) ∙ ap (λ (n : ℕ). xs ++ drop n room) e

-- no number stands behind the list's end
pub number-none : (numbers : List ℕ) (k : ℕ) → length numbers ≤ k → 0 ≡ get_or numbers k 0
number-none [] k h = refl
number-none (n ∷ numbers) zero h = absurd (omega arith)
number-none (n ∷ numbers) (suc k) h = number-none numbers k (omega arith)

-- the new ones are no more than the names, and their room keeps its length
pub number_small : {known at name count : ℕ} {new new' : List ℕ} {r : Numbered} → NumberIs known at name count new new' r
    → (r.count ≤ count + 1) × (r.number ≤ known + count) × (length new' ≡ length new)
number_small (listed l) = (omega arith, omega arith, refl)
number_small {name = name} {count} {new} (fresh l) = (omega arith, omega arith, length-set new count name)

-- The lines one after another, in the order in which they are put.
use mathlib.Core.Path.{◌≡◌, refl, ap, ◌∙◌}
use mathlib.Core.List.{List, [], ◌∷◌, ◌++◌, map, flatten}
use Prim.Native.Nat.{ℕ, zero, suc, ◌+◌, ◌-◌, ◌≤◌, ◌<◌}
use native.Mathlib.Numerals.{add-one}
use lib.ListN.{length, get_or, drop, length-drop, drop_of_length-le}
use lib.Seq.{drop-cons}
use Rattle.printing.specs.Printing.{space, symbol_text}
use Rattle.textlines.specs.Lines.{mark, row_line}

pub mark-more : (left : ℕ) → (left ≡ 0 → ⊥) → space ≡ mark left
mark-more zero n = absurd (n refl)
mark-more (suc left) n = refl

-- from a cell of a row on: its symbol, what follows it, and the cells after it
row_first : (c : ℕ) (row : List ℕ) → row_line (c ∷ row) ≡ symbol_text c ++ (mark (length row) ∷ row_line row)
unfolding row_line
row_first c row = refl

pub row_on : (row : List ℕ) (i : ℕ) → i < length row
    → row_line (drop i row) ≡ symbol_text (get_or row i 0) ++ (mark (length row - (i + 1)) ∷ row_line (drop (i + 1) row))
row_on row i h =
    rw (drop-cons row i 0 h, add-one i)
    (row_first (get_or row i 0) (drop (suc i) row)
    ∙ ap (λ (n : ℕ). symbol_text (get_or row i 0) ++ (mark n ∷ row_line (drop (suc i) row))) (length-drop (suc i) row))

pub row_done : (row : List ℕ) (i : ℕ) → length row ≤ i → row_line (drop i row) ≡ []
unfolding row_line
row_done row i h = ap row_line (drop_of_length-le row h)

-- from a line on: that line, and those after it
module _ {A : Type 0} (f : A → List ℕ) (none : A) where
  lines-first : (x : A) (xs : List A) → flatten (map f (x ∷ xs)) ≡ f x ++ flatten (map f xs)
  unfolding flatten
  lines-first x xs = refl

  pub lines-on : (xs : List A) (i : ℕ) → i < length xs
      → flatten (map f (drop i xs)) ≡ f (get_or xs i none) ++ flatten (map f (drop (i + 1) xs))
  lines-on xs i h = rw (drop-cons xs i none h, add-one i) (lines-first (get_or xs i none) (drop (suc i) xs))

  pub lines-done : (xs : List A) (i : ℕ) → length xs ≤ i → flatten (map f (drop i xs)) ≡ []
  unfolding flatten
  lines-done xs i h = ap (λ (l : List A). flatten (map f l)) (drop_of_length-le xs h)

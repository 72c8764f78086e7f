-- A name's word by its number, and a symbol's: law by law.
use Prim.Native.Nat.{ℕ, zero, suc, ◌-◌, ◌≤◌, ◌<◌}
use mathlib.Core.Path.{◌≡◌, refl, sym, ap, ◌∙◌}
use mathlib.Core.List.{List, [], ◌∷◌, ◌++◌}
use native.Mathlib.Omega.{arith}
use lib.ListN.{length, get_or}
use lib.IntN.{ℤ}
use Rattle.cell.specs.Signed.{signed_of, bits_of}
use Rattle.cell.specs.Cell.{number_of, Values, number_values, values_at, values_of}
use Rattle.cell.specs.declared.Shape.{Shape}
use Rattle.cell.specs.declared.Shape.TheVariants.{Variable, Name, Number, Refused}
use Rattle.cell.proofs.CellLaws.{number-value}
use Rattle.printing.specs.Printing.{signed_decimal, value}
use Rattle.grammar.specs.Numbering.{Words}
use Rattle.termtext.specs.Saying.{word_in, words_in, variable_word, symbol_word}

module _ (t : List ℕ) where
  pub word_none : (names : List ℕ) (k : ℕ) → length names ≤ k → get_or (words_in t names) k [] ≡ []
  word_none [] k h = refl
  word_none (n ∷ names) zero h = absurd (omega arith)
  word_none (n ∷ names) (suc k) h = word_none names k (omega arith)

  pub word_at : (names : List ℕ) (k : ℕ) → k < length names → get_or (words_in t names) k [] ≡ word_in t (get_or names k 0)
  word_at [] k h = absurd (omega arith)
  word_at (n ∷ names) zero h = refl
  word_at (n ∷ names) (suc k) h = word_at names k (omega arith)

-- of two lists one after the other
module _ (t : List ℕ) where
  pub word_first : (names : List ℕ) (words : Words) (k : ℕ) → k < length names
      → get_or (words_in t names ++ words) k [] ≡ get_or (words_in t names) k []
  word_first [] words k h = absurd (omega arith)
  word_first (n ∷ names) words zero h = refl
  word_first (n ∷ names) words (suc k) h = word_first names words k (omega arith)

  pub word-second : (names : List ℕ) (words : Words) (k : ℕ) → length names ≤ k
      → get_or (words_in t names ++ words) k [] ≡ get_or words (k - length names) []
  word-second [] words k h = let e : k - 0 ≡ k = omega arith in rw e
  word-second (n ∷ names) words zero h = absurd (omega arith)
  word-second (n ∷ names) words (suc k) h =
      let e : suc k - suc (length names) ≡ k - length names = omega arith in
      rw e (word-second names words k (omega arith))

-- a symbol's word, by what the cell is
module _ (words : Words) (c : ℕ) (s : Shape) (v : values_of s ≡ values_at c) where
  pub word-variable : (n : ℕ) → s ≡ Variable n → symbol_word words (values_at c) ≡ variable_word n
  unfolding symbol_word
  word-variable n e = ap (symbol_word words) (sym v ∙ ap values_of e)

  pub word-name : (a n : ℕ) → s ≡ Name a n → symbol_word words (values_at c) ≡ get_or words n []
  unfolding symbol_word
  word-name a n e = ap (symbol_word words) (sym v ∙ ap values_of e)

  pub word_number : (z : ℤ) → s ≡ Number z → symbol_word words (values_at c) ≡ value c
  unfolding symbol_word
  word_number z e =
      let same : values_at c ≡ number_values (bits_of z) z = sym v ∙ ap values_of e in
      let is : z ≡ signed_of (number_of c) = ap (λ (v : Values). v.value) (sym same) ∙ number-value c (ap (λ (v : Values). v.kind) same) in
      ap (symbol_word words) same ∙ ap signed_decimal is

  pub word-refused : s ≡ Refused → symbol_word words (values_at c) ≡ []
  unfolding symbol_word
  word-refused e = ap (symbol_word words) (sym v ∙ ap values_of e)

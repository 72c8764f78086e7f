-- How many bytes a word and a mark have, and the text of the cells from one on.
use Prim.Native.Nat.{ℕ, zero, suc, ◌+◌, ◌-◌, ◌/◌, ◌%◌, ◌^◌, ◌≤◌, ◌<◌}
use mathlib.Core.Path.{◌≡◌, refl, sym, ap, ◌∙◌}
use mathlib.Core.Logic.{by_cases}
use mathlib.Core.Bool.{Bool, true, false, cond}
use mathlib.Core.List.{List, [], ◌∷◌, ◌++◌}
use native.Mathlib.Omega.{arith}
use native.Mathlib.Decide.{dec_lt}
use lib.Dec.{eqb, leb}
use lib.IntN.{ℤ}
use lib.ListN.{length, get_or, take, drop, length-append, length-drop}
use lib.Seq.{slice}
use Rattle.slices.proofs.SliceLaws.{take-few}
use Rattle.cell.specs.Signed.{signed_of}
use Rattle.cell.specs.Cell.{kind_of, args_of, number_of, middle_of, Values, values, number_values, no_values, values_at, values_of, arity}
use Rattle.cell.specs.declared.Shape.{Shape}
use Rattle.cell.specs.declared.Shape.TheVariants.{Variable, Number}
use Rattle.octets.specs.Octets.{Put}
use Rattle.octets.proofs.DecimalLaws.{digits-few}
use Rattle.octets.proofs.PutLaws.{put_front}
use Rattle.printing.specs.Printing.{value}
use Rattle.printing.proofs.SymbolLaws.{value_low, value-high}
use Rattle.grammar.specs.Numbering.{Words}
use Rattle.termtext.specs.Saying.{word_in, symbol_word, closing, mark_after, owed_after, terms_text}
use Rattle.answertext.specs.code.Levels.{levels}
use Rattle.answertext.proofs.WordLaws.{word-variable, word_number}
use Rattle.answertext.proofs.LevelLaws.{terms-next, terms-done}

-- a part of a text

pub slice-few : (f t : ℕ) (l : List ℕ) → length (slice f t l) ≤ t - f
slice-few f t l = omega (arith, length-drop f (take t l), (take-few t l).0)

pub slice-within : (f t : ℕ) (l : List ℕ) → length (slice f t l) ≤ length l
slice-within f t l = omega (arith, length-drop f (take t l), (take-few t l).1)

-- a listed name has 16 bits for its bytes
pub word-few : (t : List ℕ) (n : ℕ) → n < 2 ^ 32 → length (word_in t n) ≤ 65535
word-few t n h = omega (arith, slice-few (n % 65536) (n % 65536 + n / 65536) t)

-- a variable and a number have 16 bits, five digits at most
number_small : (c : ℕ) → (values_at c).number < 2 ^ 16
unfolding values_at
number_small c = by (eqb (kind_of c) 0) (eqb (middle_of c) 0) (eqb (kind_of c) 1) (leb (middle_of c) 4) (eqb (kind_of c) 2)
  where
    by : (a z b y d : Bool) → (cond a (cond z (values 0 0 (number_of c)) no_values) (cond b (cond y (values 1 (args_of c) (number_of c)) no_values)
        (cond d (cond z (number_values (number_of c) (signed_of (number_of c))) no_values) no_values))).number
        < 2 ^ 16
    by true true b y d = omega arith
    by true false b y d = omega arith
    by false z true true d = omega arith
    by false z true false d = omega arith
    by false true false y true = omega arith
    by false false false y true = omega arith
    by false z false y false = omega arith

value-few : (c : ℕ) → length (value c) ≤ 6
value-few c = by_cases (dec_lt (number_of c) 32768)
    (λ h. omega (arith, ap length (value_low c refl h), digits-few 4 (number_of c) (omega arith)))
    (λ h. omega (arith, ap length (value-high c refl (omega arith) (omega arith)), digits-few 4 (65536 - number_of c) (omega arith)))

module _ (words : Words) (c : ℕ) (s : Shape) (v : values_of s ≡ values_at c) where
  pub variable-few : (n : ℕ) → s ≡ Variable n → length (symbol_word words (values_at c)) ≤ 6
  variable-few n e =
      let m : (values_at c).number ≡ n = ap (λ (w : Values). w.number) (sym v ∙ ap values_of e) in
      omega (arith, ap length (word-variable words c s v n e), digits-few 4 n (omega (arith, number_small c)))

  pub number-few : (z : ℤ) → s ≡ Number z → length (symbol_word words (values_at c)) ≤ 6
  number-few z e = omega (arith, ap length (word_number words c s v z e), value-few c)

-- what is short is counted where it is put
pub short-counted : {old new text : List ℕ} {r : ℕ} → Put old new 0 text r → length text ≤ 6 → 6 ≤ length old → (r ≡ length text) × (r ≤ 65535)
short-counted p h k = let e = (put_front p (omega arith)).0 in (e, omega arith)

-- a mark closes the brackets that are open, at most
closing-few : (owed : List ℕ) → length (closing owed) ≤ length owed + 1
unfolding closing
closing-few [] = omega arith
closing-few (n ∷ owed) = by (leb n 1) (closing-few owed)
  where
    by : (b : Bool) → length (closing owed) ≤ length owed + 1 → length (cond b (41 ∷ closing owed) (44 ∷ 32 ∷ [])) ≤ suc (length owed) + 1
    by true h = omega arith
    by false h = omega arith

levels-long : (owed : List ℕ) (d : ℕ) → length (levels owed d) ≡ d
levels-long owed zero = refl
levels-long owed (suc d) = ap suc (levels-long owed d)

mark-few : (a : ℕ) (owed : List ℕ) (d : ℕ) → length (mark_after a (levels owed d)) ≤ d + 1
mark-few zero owed d = omega (arith, closing-few (levels owed d), levels-long owed d)
mark-few (suc a) owed d = omega arith

pub mark-counted : (a : ℕ) (owed : List ℕ) (d : ℕ) {old new : List ℕ} {r : ℕ} → Put old new 0 (mark_after a (levels owed d)) r → d + 1 ≤ length old
    → (r ≡ length (mark_after a (levels owed d))) × (r ≤ d + 1)
mark-counted a owed d p h = let e = (put_front p (omega (arith, mark-few a owed d))).0 in (e, omega (arith, mark-few a owed d))

-- THE CELLS LEFT: one more, and none
module _ (words : Words) (owed cells : List ℕ) (i : ℕ) where
  pub bytes_next : i < length cells
      → length (terms_text words owed (drop i cells))
      ≡ length (symbol_word words (values_at (get_or cells i 0))) + length (mark_after (arity (get_or cells i 0)) owed)
      + length (terms_text words (owed_after (arity (get_or cells i 0)) owed) (drop (i + 1) cells))
  bytes_next h =
      let c = get_or cells i 0 in
      let left = terms_text words (owed_after (arity c) owed) (drop (i + 1) cells) in
      omega (
        arith,
        ap length (terms-next words owed cells i h),
        length-append (symbol_word words (values_at c)) (mark_after (arity c) owed ++ left),
        length-append (mark_after (arity c) owed) left,
      )

  pub bytes-done : length cells ≤ i → length (terms_text words owed (drop i cells)) ≡ 0
  bytes-done h = ap length (terms-done words owed cells i h)

-- Request W-206 (document 02), numbers below zero, as statements of a number's 16 bits, of its cell, and of its digits in a text. proofs/Numbers
-- proves them of the promises and of the grammar.
use Rattle.std.specs.Prelude.{ℕ, suc, ◌+◌, ◌^◌, ◌≤◌, ◌<◌, ◌≡◌, true, ◌↔◌, List, [], ◌∷◌, ◌++◌, ℤ, pos, neg_ℤ, length}
use Rattle.cell.specs.Signed.{signed_of, bits_of, InRange}
use Rattle.cell.specs.Cell.{number_cell, values_at}
use Rattle.cell.specs.declared.Shape.{Shape}
use Rattle.cell.specs.declared.Shape.TheVariants.{Number}
use Rattle.octets.specs.Octets.{Put}
use Rattle.printing.specs.Printing.{signed_decimal}
use Rattle.grammar.specs.Grammar.{is_digit, Symbol, number, Term}
use Rattle.grammar.specs.Numbers.{Decimal, Leaves, TermNext}
use Rattle.grammar.specs.Stops.{Stops}

pub record Request206 (bits : ℕ) : Type 0 where
  -- "A number's 16 bits are now two's complement, from -32,768 to 32,767"
  pub range : InRange (signed_of bits)
  pub back : bits_of (signed_of bits) ≡ bits
  -- what is printed for a number is read as that number, whatever follows
  pub read : (p : ℕ) (ys : List ℕ)
      → Term p (signed_decimal (signed_of bits) ++ ys) (p + length (signed_decimal (signed_of bits))) ys (number bits ∷ [])

-- "and the cell's reading gives a signed value": what `cell::shape_of` answers for a number's cell
abbrev pub ReadsCell : ℕ → Shape → Type 0
ReadsCell c answer = (bits : ℕ) → bits < 2 ^ 16 → c ≡ number_cell bits → answer ≡ Number (signed_of bits)

-- "The listing prints `i-1`": what `printing::put_symbol` puts into a room for one, `i` (105) and its value; and that of -1 is `-1`
abbrev pub PrintsSymbol : (c : ℕ) (out out' : List ℕ) (to r : ℕ) → Type 0
PrintsSymbol c out out' to r = (bits : ℕ) → bits < 2 ^ 16 → c ≡ number_cell bits → Put out out' to (105 ∷ signed_decimal (signed_of bits)) r

abbrev pub PrintsMinusOne : Type 0
PrintsMinusOne = signed_decimal (signed_of 65535) ≡ 45 ∷ 49 ∷ []

-- a term that is one number of this value
pub record IsNumber (symbols : List Symbol) (value : ℤ) : Type 0 where
  pub bits : ℕ
  pub small : bits < 2 ^ 16
  pub one : symbols ≡ number bits ∷ []
  pub cell : (values_at (number_cell bits)).value ≡ value

-- digits stand at place p, the first of them there, and the term is the number of their value n by `sign`
pub record Reads (most : ℕ) (sign : ℕ → ℤ) (p : ℕ) (xs : List ℕ) (q : ℕ) (ys : List ℕ) (symbols : List Symbol) : Type 0 where
  pub n : ℕ
  pub digits : Decimal p xs q ys n
  pub within : n ≤ most
  pub is : IsNumber symbols (sign n)

-- "the text reader takes a minus sign directly before the digits": a term that begins with one is exactly that. `-` is 45
abbrev pub TakesMinus : Type 0
TakesMinus = (p q : ℕ) (xs ys : List ℕ) (symbols : List Symbol)
    → Term p (45 ∷ xs) q ys symbols ↔ Reads 32768 (λ (n : ℕ). neg_ℤ (pos n)) (suc p) xs q ys symbols

-- and one that begins with a digit has no sign
abbrev pub TakesDigits : Type 0
TakesDigits = (p digit q : ℕ) (xs ys : List ℕ) (symbols : List Symbol) → is_digit digit ≡ true
    → Term p (digit ∷ xs) q ys symbols ↔ Reads 32767 pos p (digit ∷ xs) q ys symbols

-- "numbers outside the new range are TEXT in W-201": where a term may begin, after a minus sign and without one, the text stops at the digit
-- with which the value leaves the range; and each number outside it has such a digit
pub record OutOfRange : Type 0 where
  pub above : (before xs : List ℕ) (k : ℕ) → TermNext before → Leaves 32767 (length before) xs k → Stops (before ++ xs) k
  pub below : (before xs : List ℕ) (k : ℕ) → TermNext before → Leaves 32768 (suc (length before)) xs k → Stops (before ++ (45 ∷ xs)) k
  pub each : (most p q n : ℕ) (xs ys : List ℕ) → 9 ≤ most → Decimal p xs q ys n → most < n → (k : ℕ) × Leaves most p xs k

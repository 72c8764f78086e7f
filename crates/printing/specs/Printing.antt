-- What more than one program prints, as ASCII bytes: the symbol of a cell, and the line of a refusal; and that a text is written to a room.
use Rattle.std.specs.Prelude.{ℕ, suc, ◌≤◌, ◌≡◌, cond, List, [], ◌∷◌, ◌++◌, eqb, ℤ, pos, negsuc, length, drop}
use Rattle.cell.specs.Signed.{signed_of}
use Rattle.cell.specs.Cell.{number_of, Values, values_at}
use Rattle.octets.specs.Octets.{decimal, field}

-- the bytes between numbers: a space, `-`, `/`, and the line feed that ends every line
abbrev pub space : ℕ
space = 32

abbrev pub dash : ℕ
dash = 45

abbrev pub slash : ℕ
slash = 47

abbrev pub feed : ℕ
feed = 10

-- 02, W-206, "The listing prints `i-1`": a value's digits, after `-` where it is below zero
abbrev pub signed_decimal : ℤ → List ℕ
signed_decimal (pos n) = decimal n
signed_decimal (negsuc n) = dash ∷ decimal (suc n)

-- the value of a cell's 16 bits, printed
abbrev pub value : ℕ → List ℕ
value c = signed_decimal (signed_of (number_of c))

-- 01, "symbol (n number/arguments, i value or v number)": `n`, `i` and `v` are 110, 105 and 118.
-- The last case is that of a cell which is refused; no accepted table and no plan of one holds one
unfoldable pub symbol_of : Values → List ℕ
symbol_of v =
    cond (eqb v.kind 0) (118 ∷ decimal v.number)
    (cond (eqb v.kind 1) (110 ∷ (decimal v.number ++ (slash ∷ decimal v.args)))
    (cond (eqb v.kind 2) (105 ∷ signed_decimal v.value)
    []))

abbrev pub symbol_text : ℕ → List ℕ
symbol_text c = symbol_of (values_at c)

-- `refused `, ` at `
abbrev pub refused_word : List ℕ
refused_word = 114 ∷ 101 ∷ 102 ∷ 117 ∷ 115 ∷ 101 ∷ 100 ∷ 32 ∷ []

abbrev pub at_word : List ℕ
at_word = 32 ∷ 97 ∷ 116 ∷ 32 ∷ []

-- 01, "A refusal prints `refused N at K`"
unfoldable pub refusal : (number place : ℕ) → List ℕ
refusal number place = refused_word ++ (decimal number ++ (at_word ++ field place feed))

-- what is written: a text with the property comes first, "and the rest of the room is untouched"; n is how many bytes it has
pub record Written (Is : List ℕ → Type 0) (room room' : List ℕ) (n : ℕ) : Type 0 where
  pub text : List ℕ
  pub right : Is text
  pub count : n ≡ length text
  pub fits : length text ≤ length room
  pub front : room' ≡ text ++ drop (length text) room

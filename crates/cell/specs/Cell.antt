-- What one cell says (01, "Cells"). A cell is a number below 2^32; its parts are given by plain arithmetic.
use Rattle.std.specs.Prelude.{ℕ, ◌+◌, ◌*◌, ◌/◌, ◌%◌, ◌^◌, ◌≤◌, ◌<◌, Bool, cond, eqb, leb, ℤ, pos}
use Rattle.cell.specs.Signed.{signed_of, bits_of}
use Rattle.cell.specs.declared.Shape.{Shape}
use Rattle.cell.specs.declared.Shape.TheVariants.{Variable, Name, Number, Refused}

-- 01, "Bits 31..30 give the kind"
abbrev pub kind_of : ℕ → ℕ
kind_of c = c / 2 ^ 30

-- 01, kind 1: bits 18..16, the number of arguments
abbrev pub args_of : ℕ → ℕ
args_of c = c / 2 ^ 16 % 2 ^ 3

-- 01, the column "other bits": bits 15..0, the number, or the 16 bits of a value
abbrev pub number_of : ℕ → ℕ
number_of c = c % 2 ^ 16

-- the bits between, 29..16. They are zero in a variable and in a number. In a name they are the number of arguments:
-- bits 29..19 zero and at most 4 arguments is the same as these bits being at most 4
abbrev pub middle_of : ℕ → ℕ
middle_of c = c / 2 ^ 16 % 2 ^ 14

-- 01, the three kinds of cell that are allowed, as numbers
abbrev pub variable_cell : ℕ → ℕ
variable_cell n = n

abbrev pub name_cell : ℕ → ℕ → ℕ
name_cell a n = 1 * 2 ^ 30 + a * 2 ^ 16 + n

abbrev pub number_cell : ℕ → ℕ
number_cell n = 2 * 2 ^ 30 + n

-- 01, the table of kinds: a cell is one of these, and nothing else is a cell
pub data Cell : ℕ → Type 0 where
  variable : {n : ℕ} → n < 2 ^ 16 → Cell (variable_cell n)
  name : {a n : ℕ} → a ≤ 4 → n < 2 ^ 16 → Cell (name_cell a n)
  number : {n : ℕ} → n < 2 ^ 16 → Cell (number_cell n)

-- 01's values of a cell: its kind (3 where it is refused), its number of arguments, its number; and 02's, W-206: "the cell's reading gives
-- a signed value". Of a variable and a name that is their number
pub record Values : Type 0 where
  pub kind : ℕ
  pub args : ℕ
  pub number : ℕ
  pub value : ℤ

abbrev pub values : ℕ → ℕ → ℕ → Values
values k a n = record { kind = k; args = a; number = n; value = pos n }

-- a number: its 16 bits and its value
abbrev pub number_values : ℕ → ℤ → Values
number_values n z = record { kind = 2; args = 0; number = n; value = z }

abbrev pub no_values : Values
no_values = values 3 0 0

-- the values of any number taken for a cell, by 01's table, row by row
unfoldable pub values_at : ℕ → Values
values_at c =
    cond (eqb (kind_of c) 0) (cond (eqb (middle_of c) 0) (values 0 0 (number_of c)) no_values)
    (cond (eqb (kind_of c) 1) (cond (leb (middle_of c) 4) (values 1 (args_of c) (number_of c)) no_values)
    (cond (eqb (kind_of c) 2) (cond (eqb (middle_of c) 0) (number_values (number_of c) (signed_of (number_of c))) no_values)
    no_values))

-- 01's values for each case of the enum that the code answers
abbrev pub values_of : Shape → Values
values_of (Variable n) = values 0 0 n
values_of (Name a n) = values 1 a n
values_of (Number z) = number_values (bits_of z) z
values_of Refused = no_values

-- 01, "each symbol before its arguments": how many terms follow a cell as its arguments
unfoldable pub arity : ℕ → ℕ
arity c = (values_at c).args

-- 01, kind 0: a variable. Of kind 0 are also the numbers that a goal's variables are moved to (`renamed` of term/specs/Unify), which are no
-- cells of 01
unfoldable pub is_var : ℕ → Bool
is_var c = eqb (kind_of c) 0

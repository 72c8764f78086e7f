-- A list of columns as people write it, `1,3`: numbers from 1 with commas between them. And what is said where a column is not there, as ASCII
-- bytes.
use Rattle.std.specs.Prelude.{ℕ, ◌+◌, ◌-◌, ◌*◌, ◌≡◌, Bool, false, cond, not, Option, Some, None, List, [], ◌∷◌, ◌++◌, eqb, ltb, leb}
use Rattle.octets.specs.Octets.{Put, decimal}
use Rattle.message.specs.Words.{ascii}
use Rattle.message.specs.Message.{numbered_by}
use Rattle.known.specs.declared.Step.{Step}
use Rattle.known.specs.declared.Step.TheVariants as step

-- What a byte makes of a number, the value of the digits right before it, 0 where there are none: a comma ends it, and it is a column's, counted
-- from 1; a digit goes on with it, below 1,000,000,000; anything else is no list's
unfoldable pub step_of : (number byte : ℕ) → Step
step_of number byte =
    cond (eqb byte 44) (cond (eqb number 0) step.Wrong (step.Column (number - 1)))
    (cond (ltb byte 48) step.Wrong
    (cond (ltb 57 byte) step.Wrong
    (cond (leb 100000000 number) step.Wrong (step.Number (10 * number + (byte - 48))))))

abbrev pub by_step : {A : Type 0} → Step → (ℕ → A) → (ℕ → A) → A → A
by_step (step.Number n) f g wrong = f n
by_step (step.Column c) f g wrong = g c
by_step step.Wrong f g wrong = wrong

-- the columns that end in the bytes of a list, up to its first fault, the first column being 0
unfoldable pub columns_typed : (number : ℕ) → List ℕ → List ℕ
columns_typed number [] = cond (eqb number 0) [] ((number - 1) ∷ [])
columns_typed number (b ∷ bytes) = by_step (step_of number b) (λ n. columns_typed n bytes) (λ c. c ∷ columns_typed 0 bytes) []

-- whether there is no fault
unfoldable pub list_from : (number : ℕ) → List ℕ → Bool
list_from number [] = not (eqb number 0)
list_from number (b ∷ bytes) = by_step (step_of number b) (λ n. list_from n bytes) (λ c. list_from 0 bytes) false

-- what is read of a word: its columns are put at the front of the room, and how many they are is answered where it is a list
pub record Listing (word room room' : List ℕ) (r : Option ℕ) : Type 0 where
  pub count : ℕ
  pub puts : Put room room' 0 (columns_typed 0 word) count
  pub told : r ≡ cond (list_from 0 word) (Some count) None

-- a number of a list, with a comma before it where others stand before it
unfoldable pub next_text : (before number : ℕ) → List ℕ
next_text before number = cond (eqb before 0) (decimal number) (44 ∷ decimal number)

-- columns as a list, the first column being 0 and counted from 1; so many stand before them
unfoldable pub list_text : (before : ℕ) → List ℕ → List ℕ
list_text before [] = []
list_text before (c ∷ columns) = next_text before (c + 1) ++ list_text (before + 1) columns

-- `--known 1,5: COLUMN 33: the rules of shop.pl have 4 columns`
unfoldable pub column_line : (list path : List ℕ) (width : ℕ) → List ℕ
column_line list path width =
    ascii "--known " ++ (list ++ (ascii ": COLUMN 33: the rules of " ++ (path ++ (ascii " have " ++
    numbered_by width (ascii " column\n") (ascii " columns\n")))))

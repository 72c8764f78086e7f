-- What the program ask says of its counts, as ASCII bytes.
use Rattle.std.specs.Prelude.{ℕ, ◌-◌, ◌^◌, cond, List, [], ◌∷◌, ◌++◌, eqb, length}
use Rattle.std.proofs.Math.Seq.{slice}
use Rattle.octets.specs.Octets.{decimal}
use Rattle.message.specs.Words.{ascii}
use Rattle.message.specs.Message.{ended, rule_text}

-- a number at the right of a column of so many digits, with blanks around it. No number of 64 bits has over 20 digits
unfoldable pub column : (width n : ℕ) → List ℕ
column width n =
    ascii "  " ++ (slice 0 (width - length (decimal n)) (ascii "                    ") ++ (decimal n ++ ascii "  "))

-- at the largest number a count stays (crate tally), so that it may be too small
unfoldable pub more_text : ℕ → List ℕ
more_text n = cond (eqb n (2 ^ 64 - 1)) (ascii ", or more") []

unfoldable pub mark_text : ℕ → List ℕ
mark_text n = cond (eqb n 0) (ascii ", never fitted") (more_text n)

-- `  12  rule 1, line 5`, `   0  rule 2, line 6, never fitted`
unfoldable pub fitted_line : (width n rule line : ℕ) → List ℕ
fitted_line width n rule line = column width n ++ (rule_text rule line ++ ended (mark_text n))

-- a word for one of what is counted, or that for any other number of them
unfoldable pub words_for : ℕ → (one many : List ℕ) → List ℕ
words_for n one many = cond (eqb n 1) one many

-- `  12  goals answered`
unfoldable pub total_line : (width n : ℕ) (one many : List ℕ) → List ℕ
total_line width n one many = column width n ++ (words_for n one many ++ ended (more_text n))

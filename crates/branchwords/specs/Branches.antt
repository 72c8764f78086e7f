-- The words for a plan and its branches, as ASCII bytes.
use Rattle.std.specs.Prelude.{ℕ, zero, suc, ◌-◌, ◌%◌, ◌/◌, cond, List, [], ◌++◌, eqb, get_or}
use Rattle.cell.specs.Cell.{kind_of, values_at, arity}
use Rattle.octets.specs.Octets.{decimal}
use Rattle.message.specs.Words.{ascii}
use Rattle.message.specs.Message.{numbered_by}
use Rattle.termtext.specs.Saying.{words_in, symbol_word}

-- `plan of 12 rules, 39 branches`
unfoldable pub sizes_text : (rules branches : ℕ) → List ℕ
sizes_text rules branches =
    ascii "plan of " ++ (numbered_by rules (ascii " rule, ") (ascii " rules, ") ++
    numbered_by branches (ascii " branch") (ascii " branches"))

-- a word so many times
unfoldable pub times_text : ℕ → List ℕ → List ℕ
times_text zero word = []
times_text (suc n) word = word ++ times_text n word

-- ` of bowl`, the name whose argument it is, by a text and its list of names; nothing for an argument of the rule itself
unfoldable pub owner_text : (text names : List ℕ) (owner : ℕ) → List ℕ
owner_text text names owner = cond (eqb owner 0) [] (ascii " of " ++ get_or (words_in text names) (owner - 1) [])

-- `argument 2`, `argument 1 of bowl`: a place is 16 times its owner and the number of its argument, and the owner is 0 for the rule itself
-- and one more than the number of a name
unfoldable pub place_text : (text names : List ℕ) (place : ℕ) → List ℕ
place_text text names place = ascii "argument " ++ (decimal (place % 16) ++ owner_text text names (place / 16))

-- `(_, _)`, a blank for each argument of a name
unfoldable pub blanks_text : ℕ → List ℕ
blanks_text n = cond (eqb n 0) [] (ascii "(_" ++ (times_text (n - 1) (ascii ", _") ++ ascii ")"))

-- `red`, `bowl(_)`, `-5`; a rule's variable fits everything where it is first met
unfoldable pub symbol_text : (text names : List ℕ) (c : ℕ) → List ℕ
symbol_text text names c =
    cond (eqb (kind_of c) 0) (ascii "anything") (symbol_word (words_in text names) (values_at c) ++ blanks_text (arity c))

-- what a branch finds: a symbol; or a variable that was first met at another place, `the same as argument 1`. 0 is no place
unfoldable pub found_text : (text names : List ℕ) (c first : ℕ) → List ℕ
found_text text names c first =
    cond (eqb first 0) (symbol_text text names c) (ascii "the same as " ++ place_text text names first)

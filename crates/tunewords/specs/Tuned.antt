-- What `ask --tune` says, as ASCII bytes.
use Rattle.std.specs.Prelude.{ℕ, cond, List, ◌++◌, eqb, length}
use Rattle.octets.specs.Octets.{decimal}
use Rattle.message.specs.Words.{ascii}
use Rattle.message.specs.Message.{ended, numbered_by}
use Rattle.tallywords.specs.Tallies.{words_for}
use Rattle.known.specs.Known.{list_text}
use Rattle.goallist.specs.declared.Full.{Full}
use Rattle.goallist.specs.declared.Full.TheVariants as full

-- `look at columns 1,3 first: ask --known 1,3 `, `look at column 2 first: ask --known 2 `; and where no column is named the plain plan
unfoldable pub call_text : (columns : List ℕ) → List ℕ
call_text columns =
    cond (eqb (length columns) 0) (ascii "the plain plan is best: ask ")
    (words_for (length columns) (ascii "look at column ") (ascii "look at columns ") ++ (list_text 0 columns ++ (ascii " first: ask --known " ++
    (list_text 0 columns ++ ascii " "))))

-- `look at columns 1,3 first: ask --known 1,3 shop.pl`, `the plain plan is best: ask shop.pl`
unfoldable pub look_line : (columns path : List ℕ) → List ℕ
look_line columns path = call_text columns ++ ended path

-- `300 goals counted, 2 refused: 4311 branches tried, 4833 by the plain plan`
unfoldable pub counted_line : (goals refused tried plain : ℕ) → List ℕ
counted_line goals refused tried plain =
    numbered_by goals (ascii " goal counted, ") (ascii " goals counted, ") ++ (decimal refused ++ (ascii " refused: " ++
    (numbered_by tried (ascii " branch tried, ") (ascii " branches tried, ") ++ (decimal plain ++ ascii " by the plain plan\n"))))

-- why a goal finds no room, after its line: its column, the refusal's name and number, and what is expected
unfoldable pub full_reason : Full → List ℕ
full_reason full.Goals = ascii ":1: COUNT 3: at most 100,000 goals are expected\n"
full_reason full.Cells = ascii ":1: LENGTH 1: at most 800,000 names, variables and numbers are expected in all goals\n"

-- `jobs.pl:100001:1: COUNT 3: at most 100,000 goals are expected`
unfoldable pub full_line : (path : List ℕ) (line : ℕ) → Full → List ℕ
full_line path line full = path ++ (ascii ":" ++ (decimal line ++ full_reason full))

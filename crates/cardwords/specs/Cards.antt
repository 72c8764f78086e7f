-- What the program card says, as ASCII bytes.
use Rattle.std.specs.Prelude.{ℕ, cond, List, [], ◌++◌, eqb}
use Rattle.refusal.specs.Refusal.{reason_number}
use Rattle.refusal.specs.declared.Reason.{Reason}
use Rattle.refusal.specs.declared.Input.{Input}
use Rattle.refusal.specs.declared.Input.TheVariants as input
use Rattle.octets.specs.Octets.{decimal}
use Rattle.message.specs.Words.{ascii}
use Rattle.message.specs.Message.{ended, numbered_by}
use Rattle.cardreasons.specs.Reasons.{card_reason}

-- `: 12 rules, 4 columns, 39 branches, 2 blocks`, after a card's name
unfoldable pub held_line : (rules columns branches blocks : ℕ) → List ℕ
held_line rules columns branches blocks =
    ascii ": " ++ (numbered_by rules (ascii " rule, ") (ascii " rules, ") ++ (numbered_by columns (ascii " column, ") (ascii " columns, ") ++
    (numbered_by branches (ascii " branch, ") (ascii " branches, ") ++ numbered_by blocks (ascii " block\n") (ascii " blocks\n"))))

-- `table, cell 7: `
unfoldable pub numbered_place : List ℕ → ℕ → List ℕ
numbered_place word n = word ++ (decimal n ++ ascii ": ")

-- DAMAGE has the place of a block; the other refusals of a file have none
unfoldable pub block_text : (number place : ℕ) → List ℕ
block_text number place = cond (eqb number 28) (numbered_place (ascii "block ") place) []

-- where it is
unfoldable pub place_text : Reason → Input → ℕ → List ℕ
place_text reason input.Table place = numbered_place (ascii "table, cell ") place
place_text reason input.Plan place = numbered_place (ascii "plan, cell ") place
place_text reason input.Goal place = []
place_text reason input.Lent place = []
place_text reason input.Text place = []
place_text reason input.Figure place = []
place_text reason input.Names place = []
place_text reason input.Columns place = []
place_text reason input.File place = block_text (reason_number reason) place

-- `: block 1: DAMAGE 28: ..`, after a card's name
unfoldable pub refused_line : Reason → Input → ℕ → List ℕ
refused_line reason input place = ascii ": " ++ (place_text reason input place ++ ended (card_reason reason))

-- after the name of a file that has more bytes than are looked at
unfoldable pub longer_line : List ℕ
longer_line = ascii " is longer than any card\n"

-- What is reported of a bad card, as ASCII bytes (02, W-212, "It reports rows kept, rows dropped, whether the plan was kept, and each bad block").
use Rattle.std.specs.Prelude.{ℕ, ◌-◌, Bool, true, false, cond, leb}
use mathlib.Core.List.{List, [], ◌∷◌, ◌++◌, map, flatten}
use Rattle.octets.specs.Octets.{decimal}
use Rattle.message.specs.Words.{ascii}
use Rattle.message.specs.Message.{ended, numbered_by}

-- "rows dropped": `, 2 dropped`; nothing where there are none
unfoldable pub dropped_text : (kept count : ℕ) → List ℕ
dropped_text kept count = cond (leb count kept) [] (ascii ", " ++ (decimal (count - kept) ++ ascii " dropped"))

-- "rows kept": `12 of 12 rules kept`, or `10 of 12 rules kept, 2 dropped`
unfoldable pub kept_line : (kept count : ℕ) → List ℕ
kept_line kept count =
    decimal kept ++ (ascii " of " ++ (numbered_by count (ascii " rule kept") (ascii " rules kept") ++ ended (dropped_text kept count)))

-- "whether the plan was kept"
unfoldable pub plan_line : Bool → List ℕ
plan_line true = ascii "the plan is kept\n"
plan_line false = ascii "the plan is new\n"

-- numbers after the first, each after a comma and a blank
unfoldable pub other_text : ℕ → List ℕ
other_text n = ascii ", " ++ decimal n

abbrev pub others_text : List ℕ → List ℕ
others_text numbers = flatten (map other_text numbers)

unfoldable pub numbers_text : List ℕ → List ℕ
numbers_text [] = ascii "none"
numbers_text (n ∷ numbers) = decimal n ++ others_text numbers

-- "each bad block": `bad blocks: 1, 7`, or `bad blocks: none`
unfoldable pub bad_line : List ℕ → List ℕ
bad_line numbers = ascii "bad blocks: " ++ ended (numbers_text numbers)

-- the three lines
unfoldable pub report_lines : (kept count : ℕ) (keeps : Bool) (bad : List ℕ) → List ℕ
report_lines kept count keeps bad = kept_line kept count ++ (plan_line keeps ++ bad_line bad)

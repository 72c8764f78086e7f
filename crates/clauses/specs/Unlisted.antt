-- NAMES in 02's own words (W-210): "when a listed place holds no lower-case name, two hold the same, or the table has a name number not
-- listed". That it is exactly what `Listed` (Handed) is not is proved in proofs/UnlistedLaws.
use Rattle.std.specs.Prelude.{ℕ, ◌+◌, ◌/◌, ◌%◌, ◌≤◌, ◌<◌, ◌≡◌, length}
use mathlib.Core.List.{List, Memᴰ}
use Rattle.cell.specs.Cell.{kind_of, number_of}
use Rattle.grammar.specs.Numbering.{Nth}
use Rattle.lex.specs.Names.{IsName}
use Rattle.termtext.specs.Saying.{word_in, words_in}

pub data Unlisted (text names : List ℕ) (rows : List (List ℕ)) : Type 0 where
  no_name : (k n : ℕ) → Nth names k n → ((n % 65536 + n / 65536 ≤ length text) × IsName (word_in text n) → ⊥) → Unlisted text names rows
  the_same : (j k : ℕ) (w : List ℕ) → Nth (words_in text names) j w → Nth (words_in text names) k w → j < k → Unlisted text names rows
  no_number : (row : List ℕ) (c : ℕ) → Memᴰ row rows → Memᴰ c row → kind_of c ≡ 1 → length names ≤ number_of c
      → Unlisted text names rows

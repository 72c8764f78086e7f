-- What is said of a text's words (02, W-201), for every text: its names listed and its cells made, for a table in so many cells of room.
use Rattle.std.specs.Prelude.{ℕ, ◌+◌, ◌≤◌, ◌<◌, List, [], length, Result, Ok, Err}
use Rattle.refusal.specs.Refusal.{told}
use Rattle.refusal.specs.Read.{refuse}
use Rattle.refusal.specs.declared.Refusal.{Refusal}
use Rattle.grammar.specs.Grammar.{Fact}
use Rattle.grammar.specs.Meaning.{symbols_of, table_cells, name_list}
use Rattle.grammar.specs.Taken.{Taken}
use Rattle.loading.specs.Load.{put_first}
use Rattle.loading.specs.Items.{items_of, numbering}
use Rattle.scan.specs.Scan.{Counts}
use Rattle.scan.specs.declared.Counted.{Counted}
use Rattle.texttable.specs.declared.NamesRead.{NamesRead}
use Rattle.texttable.specs.declared.NamesRead.TheVariants as names-read
use Rattle.texttable.specs.declared.TextWords.{TextWords}
use Rattle.limits.specs.Limits.{most_names}

-- the numbers of the symbols, in their order
abbrev pub numbers_of : List ℕ → List Fact → List ℕ
numbers_of t facts = numbering t [] [] (items_of facts)

-- Of facts: where there is no room for the cells of their table, nothing is said of their names; over 2,048 symbols are no table, and their
-- names are counted; otherwise the list and the cells come first, and the rest of both rooms is as it was
pub data NamesAre (t : List ℕ) (facts : List Fact) (room : ℕ) (list made : List ℕ) : List ℕ → List ℕ → NamesRead → Type 0 where
  no_room : room < length (symbols_of facts) + 2 → NamesAre t facts room list made list made names-read.Passed
  many : length (symbols_of facts) + 2 ≤ room → most_names < length (symbols_of facts)
      → NamesAre t facts room list made list made (names-read.Counted (length (name_list t facts)))
  few : length (symbols_of facts) + 2 ≤ room → length (symbols_of facts) ≤ most_names
      → NamesAre t facts room list made (put_first (name_list t facts) list) (put_first (table_cells t facts) made)
      (names-read.Listed (length (name_list t facts)))

abbrev pub with_names : Counted → NamesRead → TextWords
with_names c r = record { facts = c; names = r }

-- of a text: its facts are counted; or it is turned away, and nothing is written
pub data WordsAre (t : List ℕ) (room : ℕ) (list made : List ℕ) : List ℕ → List ℕ → Result TextWords Refusal → Type 0 where
  facts : {c : Counted} {list' made' : List ℕ} {r : NamesRead} (C : Counts t c)
      → NamesAre t C.facts room list made list' made' r → WordsAre t room list made list' made' (Ok (with_names c r))
  refused : {f : Refusal} → Taken t (refuse (told f)) → WordsAre t room list made list made (Err f)

-- Request W-201 (document 02), tables from Prolog text, as a statement of what the entry is given and what it answers. proofs/Texts proves
-- it of the entry's promise, and src/lib.rt ties it to the entry.
--
-- `cells`, `names` are the two lent rooms before, `cells'`, `names'` after. `Text text facts` is the grammar: the text is one, with these
-- facts (crate grammar, specs/Grammar). `Stops text k`: no accepted text goes on so at k (specs/Stops).
use Rattle.std.specs.Prelude.{ℕ, suc, ◌+◌, ◌/◌, ◌%◌, ◌^◌, ◌≤◌, ◌<◌, ◌≡◌, true, ◌↔◌, length, drop}
use mathlib.Core.List.{List, [], ◌∷◌, ◌++◌, Memᴰ}
use Rattle.std.proofs.Math.Seq.{slice}
use Rattle.refusal.specs.Refusal.{Refused, refused, Answer, answered, turned}
use Rattle.refusal.specs.declared.Reason.TheVariants as reason
use Rattle.refusal.specs.declared.Input.TheVariants as input
use Rattle.refusal.specs.Read.{refuse}
use Rattle.table.specs.Table.{table_of, IsTable}
use Rattle.grammar.specs.Grammar.{is_digit, Symbol, name, number, Term, Fact, fact, Text}
use Rattle.grammar.specs.Stops.{Stops}
use Rattle.grammar.specs.Meaning.{symbols_of, table_cells, name_list, none, found}
use Rattle.grammar.specs.Numbering.{Nth, FirstAt}
use Rattle.grammar.specs.Other.{OtherAmong}
use Rattle.limits.specs.Limits.{most_text_bytes}

-- the text is one, of one predicate and width, and its table and its names fit the rooms
pub record TextFits (text cells names : List ℕ) (facts : List Fact) : Type 0 where
  pub bytes : length text ≤ most_text_bytes
  pub reading : Text text facts
  pub alike : OtherAmong text facts none
  pub room : length (table_cells text facts) ≤ length cells
  pub list : length (name_list text facts) ≤ length names

-- "Refusals in order: BYTES for over 65,535 bytes; TEXT at the first byte (or the end) where no accepted text could go on so; OTHER at the
-- first fact of another predicate or width; ROOM; then 01's": what turns a text away, and the refusal that it gets
pub data TextTurned (text cells names : List ℕ) : Refused → Type 0 where
  bytes : most_text_bytes < length text → TextTurned text cells names (refused reason.Bytes input.Text 0)
  no_text : (k : ℕ) → length text ≤ most_text_bytes → Stops text k → TextTurned text cells names (refused reason.Text input.Text k)
  other : (facts : List Fact) (k : ℕ) → length text ≤ most_text_bytes → Text text facts → OtherAmong text facts (found k)
      → TextTurned text cells names (refused reason.Other input.Text k)
  no_cells : (facts : List Fact) → length text ≤ most_text_bytes → Text text facts → OtherAmong text facts none
      → length cells < length (table_cells text facts)
      → TextTurned text cells names (refused reason.Room input.Lent (length (table_cells text facts)))
  no_names : (facts : List Fact) → length text ≤ most_text_bytes → Text text facts → OtherAmong text facts none
      → length (table_cells text facts) ≤ length cells → length names < length (name_list text facts)
      → TextTurned text cells names (refused reason.Room input.Lent (length (name_list text facts)))
  no_table : (facts : List Fact) (refusal : Refused) → TextFits text cells names facts → table_of (table_cells text facts) ≡ refuse refusal
      → TextTurned text cells names refusal

-- "A text of facts for one predicate becomes a table", and "a list of where each name first stands in the text, start and bytes, is given
-- back"; refused as above, with nothing written to either room
pub record Request201 (text cells names cells' names' : List ℕ) (answer : Answer) : Type 0 where
  pub loads : (facts : List Fact) (width : ℕ) (rows : List (List ℕ)) → TextFits text cells names facts
      → IsTable (table_cells text facts) width rows
      → (answer ≡ answered (length (table_cells text facts)) (length (name_list text facts)))
      × (cells' ≡ table_cells text facts ++ drop (length (table_cells text facts)) cells)
      × (names' ≡ name_list text facts ++ drop (length (name_list text facts)) names)
  pub refuses : (f : Refused) → (answer ≡ turned f) ↔ TextTurned text cells names f
  pub untouched : (f : Refused) → answer ≡ turned f → (cells' ≡ cells) × (names' ≡ names)
  -- the header: "the place is above the cells lent exactly where it is the first", the cells' ROOM; and otherwise it is the names'
  pub room : (facts : List Fact) (place : ℕ) → Text text facts → answer ≡ turned (refused reason.Room input.Lent place)
      → ((length cells < place) ↔ (place ≡ length (table_cells text facts))) × ((place ≤ length cells) ↔ (place ≡ length (name_list text facts)))

-- "A text has at least one fact, a fact at least one argument, a name inside at most 4": of the facts of every accepted text
pub record Sizes (facts : List Fact) : Type 0 where
  pub some-fact : 1 ≤ length facts
  pub some-argument : (f : Fact) → Memᴰ f facts → 1 ≤ f.width
  pub at-most-4 : (s e args : ℕ) → Memᴰ (name s e args) (symbols_of facts) → args ≤ 4

-- an entry of the list of names: "start and bytes", the start in bits 15..0 and the number of bytes in bits 31..16
abbrev pub start_in : ℕ → ℕ
start_in entry = entry % 2 ^ 16

abbrev pub listed_bytes : ℕ → ℕ
listed_bytes entry = entry / 2 ^ 16

abbrev pub end_in : ℕ → ℕ
end_in entry = start_in entry + listed_bytes entry

-- "Names are numbered from 0 in order of first appearance, and a list of where each name first stands in the text, start and bytes": each
-- entry is where a name first stands, each name has an entry, and they stand in the order of the text
pub record NamesListed (text : List ℕ) (facts : List Fact) (list : List ℕ) : Type 0 where
  pub first : (k entry : ℕ) → Nth list k entry → FirstAt text (symbols_of facts) (start_in entry) (end_in entry)
  pub each : (s e args : ℕ) → Memᴰ (name s e args) (symbols_of facts)
      → (k : ℕ) × (entry : ℕ) × Nth list k entry × (slice (start_in entry) (end_in entry) text ≡ slice s e text)
  pub order : (j k one two : ℕ) → Nth list j one → Nth list k two → j < k → start_in one < start_in two

-- "`09` and `9` are the number 9": a 0 before a digit changes nothing, whatever digits follow. A term that is read from the 0 on, and beyond
-- it, is the term that is read from the digit on; so too after a minus sign. `0` is 48, `-` is 45
abbrev pub ZeroInFront : Type 0
ZeroInFront = (p b q : ℕ) (xs ys : List ℕ) (symbols : List Symbol) → is_digit b ≡ true → suc p < q
    → Term p (48 ∷ b ∷ xs) q ys symbols ↔ Term (suc p) (b ∷ xs) q ys symbols

abbrev pub ZeroAfterMinus : Type 0
ZeroAfterMinus = (p q : ℕ) (xs ys : List ℕ) (symbols : List Symbol) → suc (suc p) < q
    → Term p (45 ∷ 48 ∷ xs) q ys symbols ↔ Term (suc p) (45 ∷ xs) q ys symbols

-- the texts `p(09).` and `p(9).`
pub record Nine : Type 0 where
  pub with-zero : Text (112 ∷ 40 ∷ 48 ∷ 57 ∷ 41 ∷ 46 ∷ []) (fact 0 1 1 (number 9 ∷ []) ∷ [])
  pub without : Text (112 ∷ 40 ∷ 57 ∷ 41 ∷ 46 ∷ []) (fact 0 1 1 (number 9 ∷ []) ∷ [])

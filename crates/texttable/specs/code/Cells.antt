-- The writing of the cells and the listing of the names (src/cells.rt), beside the reader: a cell for each symbol that is met, a name's with
-- the arguments that are complete, and for each name that is open which cell is its own. These definitions describe the code's own state; no
-- promise cites them.
use Rattle.std.specs.Prelude.{ℕ, ◌+◌, ◌%◌, ◌^◌, ◌≤◌, ◌<◌, ◌≡◌, Bool, false, List, [], ◌∷◌, ◌++◌, map, length, get_or, set, drop, Some, None}
use Rattle.cell.specs.Cell.{args_of, number_of, variable_cell, name_cell}
use Rattle.grammar.specs.Grammar.{Symbol, Fact}
use Rattle.grammar.specs.Meaning.{Place, symbols_of, entry_of, table_cells, name_list}
use Rattle.grammar.specs.Reader.{Frame, Work, reads, run, text_of, Held}
use Rattle.loading.specs.Load.{put_first}
use Rattle.loading.specs.Items.{Item, items_of, names_met, numbering, shapes}
use Rattle.lex.specs.Turns.{term_mode, Turns}
use Rattle.lex.specs.declared.turn.Turn.{Turn}
use Rattle.symbols.specs.Next.{RowEnds, After, NextIs}
use Rattle.symbols.specs.code.Left.{Left}
use Rattle.symbols.specs.declared.Spot.{Spot}
use Rattle.symbols.specs.declared.Ahead.{Ahead}
use Rattle.texttable.specs.Words.{numbers_of}
use Rattle.texttable.specs.code.Tree.{Tree, WordMet, Cleared}
use Rattle.texttable.specs.code.Names.{Shown}
use Rattle.texttable.specs.code.Numbers.{RowVars, VariableIs}
use Rattle.texttable.specs.declared.numbers.Row.{Row}
use Rattle.texttable.specs.declared.numbers.Numbered.{Numbered}
use Rattle.texttable.specs.declared.cells.Making.{Making}
use Rattle.texttable.specs.declared.cells.Known.{Known}
use Rattle.texttable.specs.declared.cells.Made.{Made}
use Rattle.texttable.specs.declared.cells.Made.TheVariants as made
use Rattle.limits.specs.Limits.{most_names, most_text_bytes}

abbrev pub making : ℕ → Bool → ℕ → ℕ → Making
making at past depth count = record { at = at; past = past; depth = depth; count = count }

abbrev pub known : ℕ → ℕ → ℕ → Known
known names named all = record { names = names; row = record { named = named; all = all } }

-- a name's cell with one more argument
abbrev pub with_argument : ℕ → ℕ
with_argument c = name_cell ((args_of c + 1) % 2 ^ 3) (number_of c % 2 ^ 16)

-- a name is met and its cell written: it is new, or one that is listed
pub data NamePut (t list links : List ℕ) (names from to : ℕ) (list' links' cells cells' : List ℕ) (count : ℕ) : ℕ → Type 0 where
  put-new : WordMet t list links names from to list' links' names → cells' ≡ set cells count (name_cell 0 names)
      → NamePut t list links names from to list' links' cells cells' count (names + 1)
  put-old : {n : ℕ} → WordMet t list links names from to list' links' n → (n ≡ names → ⊥) → cells' ≡ set cells count (name_cell 0 n)
      → NamePut t list links names from to list' links' cells cells' count names

-- a variable is met and its cell written
pub record VariablePut (t : List ℕ) (places : List Place) (w : Place) (words ways given cells cells' : List ℕ) (count : ℕ) (r : Row) : Type 0 where
  pub numbered : Numbered
  pub is : VariableIs t places w words ways given numbered
  pub row : r ≡ numbered.row
  pub cell : cells' ≡ set cells count (variable_cell numbered.number)

-- after a fact's last bracket
abbrev pub RowMade : (t : List ℕ) (at count : ℕ) (k : Known) (ways ways' : List ℕ) → Made → Type 0
RowMade t at count k ways ways' (made.Go next k') =
    RowEnds t at (Some next.at) × (next ≡ making next.at false 0 count) × (k' ≡ known k.names 0 0) × Cleared ways ways' k.row.named
RowMade t at count k ways ways' (made.Done n) = RowEnds t at None × (n ≡ k.names)

-- the open names, the innermost first: their cells, where those of the fact begin at a place, and at most three arguments complete
unfoldable pub Owned : ℕ → List ℕ → List Frame → Type 0
Owned place owners [] = Unit {0}
Owned place owners (f ∷ fs) = (get_or owners (length fs) 0 ≡ place + f.owner) × (f.done ≤ 3) × Owned place owners fs

-- the facts before the one under way, and its symbols so far
abbrev pub sofar : List Fact → Work → List Symbol
sofar before w = symbols_of before ++ w.out

-- where the reading is, and that the cells so far are those of the symbols so far
pub record Makes (t : List ℕ) (facts : List Fact) (numbers start cells owners : List ℕ) (m : Making) : Type 0 where
  pub before : List Fact
  pub later : List Fact
  pub work : Work
  pub all : facts ≡ before ++ later
  pub size : length start ≡ length cells
  pub within : m.at ≤ length t
  pub same : run (drop m.at t) (term_mode m.past) work m.at ≡ reads later
  pub held : Held work.out work.opened
  pub deep : length work.opened ≡ m.depth
  pub owned : Owned (length (symbols_of before)) owners work.opened
  pub count : length (sofar before work) ≡ m.count
  pub written : cells ≡ shapes (sofar before work) numbers ++ drop m.count start

-- the words that are met so far, and the items that are left: where the last one ended, and that only marks came since
pub record Knows (t : List ℕ) (facts : List Fact) (listed list links words ways given : List ℕ) (m : Making) (k : Known) : Type 0 where
  pub names : List Place
  pub number : length names ≡ k.names
  pub shown : Shown t list links names
  pub entries : list ≡ map entry_of names ++ drop k.names listed
  pub vars : RowVars t words ways given k.row
  pub few : (k.names ≤ m.count) × (k.row.all ≤ m.count)
  pub from : Spot
  pub rest : List Item
  pub left : Left t from rest
  pub low : from.at ≤ m.at
  pub here : (x : Turn) (r : Ahead) → Turns t m.at m.past x → After t m.depth x r → NextIs t from r
  pub met : names_met t names rest ≡ names_met t [] (items_of facts)
  pub numbers : numbering t names vars.places rest ≡ drop m.count (numbers_of t facts)
  pub small : (i : ℕ) → i < m.count → get_or (numbers_of t facts) i 0 < 65536

-- there is room for all the symbols
pub record Roomy (facts : List Fact) (cells owners : List ℕ) : Type 0 where
  pub for-cells : length (symbols_of facts) ≤ length cells
  pub for-owners : length (symbols_of facts) ≤ length owners
  pub few : length (symbols_of facts) < 65536

pub record Rooms (t : List ℕ) (facts : List Fact) (list words cells owners : List ℕ) : Type 0 where
  pub text : length t ≤ most_text_bytes
  pub roomy : Roomy facts cells owners
  pub for-names : length (symbols_of facts) ≤ length list
  pub for-words : length (symbols_of facts) ≤ length words
  pub few : (length list < 65535) × (length words < 65535)

-- both under way at the same place
pub record State (t : List ℕ) (facts : List Fact) (start listed list links words ways given cells owners : List ℕ) (m : Making) (k : Known) : Type 0 where
  pub makes : Makes t facts (numbers_of t facts) start cells owners m
  pub knows : Knows t facts listed list links words ways given m k

pub record Ready (t list links words ways given cells owners : List ℕ) (m : Making) (k : Known) : Type 0 where
  pub facts : List Fact
  pub start : List ℕ
  pub listed : List ℕ
  pub rooms : Rooms t facts list words cells owners
  pub state : State t facts start listed list links words ways given cells owners m k

-- all the cells
abbrev pub cells_in : List Fact → List ℕ → List ℕ → List ℕ
cells_in facts numbers start = shapes (symbols_of facts) numbers ++ drop (length (symbols_of facts)) start

pub record Written (t : List ℕ) (facts : List Fact) (start listed list out : List ℕ) (r : ℕ) : Type 0 where
  pub count : r ≡ length (name_list t facts)
  pub names : list ≡ put_first (name_list t facts) listed
  pub cells : out ≡ cells_in facts (numbers_of t facts) start

-- one turn further, or all are written
abbrev pub MadeIs : (t : List ℕ) (facts : List Fact) (start listed : List ℕ) (m : Making) (list links words ways given cells owners : List ℕ) → Made → Type 0
MadeIs t facts start listed m list links words ways given cells owners (made.Go next k) =
    (m.at < next.at) × State t facts start listed list links words ways given cells owners next k
MadeIs t facts start listed m list links words ways given cells owners (made.Done n) = Written t facts start listed list cells n

-- all of an accepted text with at most so many symbols, and room for them
pub record Writes (most : ℕ) (t list cells : List ℕ) : Type 0 where
  pub facts : List Fact
  pub accepted : text_of t ≡ reads facts
  pub text : length t ≤ most_text_bytes
  pub for-list : length list ≡ most_names
  pub for-cells : length (symbols_of facts) ≤ length cells
  pub few : length (symbols_of facts) ≤ most

-- the same, with nothing met yet: `list` is the whole list or its first part
pub record Fresh (t list links words ways given cells owners : List ℕ) : Type 0 where
  pub most : ℕ
  pub whole : List ℕ
  pub writes : Writes most t whole cells
  pub low : most ≤ most_names
  pub for-list : length list ≡ most
  pub for-words : length words ≡ most
  pub for-given : length given ≡ length words
  pub for-owners : length owners ≡ most
  pub names : Tree t list links 0
  pub vars : Tree t words ways 0

-- the cells of the table are put at the front of a room, and the names at the front of a list
pub record TableIs (t : List ℕ) (facts : List Fact) (list list' made made' : List ℕ) (r : ℕ) : Type 0 where
  pub count : r ≡ length (name_list t facts)
  pub names : list' ≡ put_first (name_list t facts) list
  pub wrote : made' ≡ put_first (table_cells t facts) made

-- What the entry answers (02, W-210, "Hand the plan back as Prolog"), and what its room then holds.
use Rattle.std.specs.Prelude.{ℕ, ◌+◌, ◌/◌, ◌%◌, ◌≤◌, ◌<◌, ◌≡◌, length, drop, Result, Ok, Err}
use mathlib.Core.List.{List, ◌++◌, Memᴰ}
use Rattle.cell.specs.Cell.{kind_of, number_of}
use Rattle.refusal.specs.Refusal.{Refused, refused, told, Answer, answered, turned}
use Rattle.refusal.specs.declared.Reason.TheVariants as reason
use Rattle.refusal.specs.declared.Input.TheVariants as input
use Rattle.refusal.specs.Read.{Read, read, refuse, and_then}
use Rattle.table.specs.All.{All}
use Rattle.table.specs.Table.{Table, table_of}
use Rattle.plan.specs.Plans.{Plan, write}
use Rattle.plan.specs.Check.{plan_for}
use Rattle.grammar.specs.Numbering.{Nth}
use Rattle.lex.specs.Names.{IsName}
use Rattle.termtext.specs.Saying.{word_in, words_in}
use Rattle.clauses.specs.Clauses.{Clause}
use Rattle.clauses.specs.Program.{program}
use Rattle.clauses.specs.Text.{program_text}
use Rattle.clauses.specs.declared.ProgramSize.{ProgramSize}
use Rattle.refusal.specs.declared.Refusal.{Refusal}

-- "Refusals, after table and plan: .."
unfoldable pub hand_of : (table plan : List ℕ) → Read Table
hand_of table plan = and_then (table_of table) (λ (T : Table). and_then (plan_for T plan) (λ (branches : ℕ). read T))

-- "NAMES when a listed place holds no lower-case name, two hold the same, or the table has a name number not listed": none of these
pub record Listed (text names : List ℕ) (rows : List (List ℕ)) : Type 0 where
  pub places : (k n : ℕ) → Nth names k n → (n % 65536 + n / 65536 ≤ length text) × IsName (word_in text n)
  pub apart : (j k : ℕ) (w : List ℕ) → Nth (words_in text names) j w → Nth (words_in text names) k w → j ≡ k
  pub known : All (λ (row : List ℕ). (c : ℕ) → Memᴰ c row → kind_of c ≡ 1 → number_of c < length names) rows

-- the code's answer in numbers: the clauses and the bytes, or a refusal (01, "A refusal returns its number ..")
abbrev pub hand_told : Result ProgramSize Refusal → Answer
hand_told (Ok size) = answered size.clauses size.bytes
hand_told (Err f) = turned (told f)

-- the text that is handed back: "Names come from W-201's list"
abbrev pub text_for : (text names : List ℕ) → List Clause → List ℕ
text_for text names cs = program_text (words_in text names) cs

-- "Refusals, after table and plan: NAMES .. then ROOM". Refused: nothing is written. ROOM's place is the bytes needed (01). Otherwise
-- the text comes first and the rest of the room is untouched
pub data Handed (table plan text names room room' : List ℕ) (result : Result ProgramSize Refusal) : Type 0 where
  refusal : (f : Refused) → hand_of table plan ≡ refuse f → hand_told result ≡ turned f → room' ≡ room
      → Handed table plan text names room room' result
  no_names : (T : Table) → hand_of table plan ≡ read T → (Listed text names T.rows → ⊥)
      → hand_told result ≡ turned (refused reason.Names input.Names 0) → room' ≡ room → Handed table plan text names room room' result
  no_room : (T : Table) (tree : Plan T.width T.rows) → hand_of table plan ≡ read T → plan ≡ write tree → Listed text names T.rows
      → length room < length (text_for text names (program tree))
      → hand_told result ≡ turned (refused reason.Room input.Lent (length (text_for text names (program tree)))) → room' ≡ room
      → Handed table plan text names room room' result
  handed : (T : Table) (tree : Plan T.width T.rows) → hand_of table plan ≡ read T → plan ≡ write tree → Listed text names T.rows
      → length (text_for text names (program tree)) ≤ length room
      → hand_told result ≡ answered (length (program tree)) (length (text_for text names (program tree)))
      → room' ≡ text_for text names (program tree) ++ drop (length (text_for text names (program tree))) room
      → Handed table plan text names room room' result

-- W-210, "Hand the plan back as Prolog", sentence by sentence, as statements of what the entry is given and what it answers. proofs/Clauses
-- proves each of the entry's promise, and src/lib.rt ties it to the entry.
--
-- `text` and `names` are W-201's: entry n of the list says where name number n stands in the text. Of crate clauses, specs: `program tree` is
-- the translation (Translate, Program), `text_for` its text (Text), `Reads` the grammar by which a text is a program (Reading), `Answers` what a
-- program answers (Answers), `Listed` what NAMES asks (Handed), `Unlisted` its three failures (Unlisted).
use Rattle.std.specs.Prelude.{ℕ, ◌≤◌, ◌<◌, ◌≡◌, ◌↔◌, ◌≢◌, List, ◌∷◌, ◌++◌, length, drop}
use Rattle.refusal.specs.Refusal.{Refused, refused, Answer, answered, turned}
use Rattle.refusal.specs.declared.Reason.TheVariants as reason
use Rattle.refusal.specs.declared.Input.TheVariants as input
use Rattle.refusal.specs.Read.{refuse}
use Rattle.table.specs.Table.{table_of, IsTable, IsGoal}
use Rattle.plan.specs.Plans.{Plan, write}
use Rattle.plan.specs.Check.{plan_of}
use Rattle.octets.specs.Octets.{decimal}
use Rattle.grammar.specs.Numbering.{Nth}
use Rattle.termtext.specs.Saying.{words_in}
use Rattle.instance.specs.Reply.{Replies}
use Rattle.clauses.specs.Clauses.{Clause}
use Rattle.clauses.specs.Program.{program}
use Rattle.clauses.specs.Text.{predicate_word}
use Rattle.clauses.specs.Reading.{Reads}
use Rattle.clauses.specs.Answers.{Answers}
use Rattle.clauses.specs.Handed.{Listed, text_for}
use Rattle.clauses.specs.Unlisted.{Unlisted}

-- "Refusals, after table and plan: NAMES when a listed place holds no lower-case name, two hold the same, or the table has a name number not
-- listed; then ROOM": what turns it away, and the refusal that it gets
pub data ClausesTurned (cells plan text names room : List ℕ) (refusal : Refused) : Type 0 where
  bad-table : table_of cells ≡ refuse refusal → ClausesTurned cells plan text names room refusal
  bad-plan : {width : ℕ} {rows : List (List ℕ)} → IsTable cells width rows → plan_of cells plan ≡ refuse refusal
      → ClausesTurned cells plan text names room refusal
  bad-names : {width : ℕ} {rows : List (List ℕ)} → IsTable cells width rows → (tree : Plan width rows) → write tree ≡ plan
      → Unlisted text names rows → refusal ≡ refused reason.Names input.Names 0 → ClausesTurned cells plan text names room refusal
  bad-room : {width : ℕ} {rows : List (List ℕ)} → IsTable cells width rows → (tree : Plan width rows) → write tree ≡ plan
      → Listed text names rows → length room < length (text_for text names (program tree))
      → refusal ≡ refused reason.Room input.Lent (length (text_for text names (program tree)))
      → ClausesTurned cells plan text names room refusal

-- with nothing written (demand 1)
pub record ClausesRefused (cells plan text names room after : List ℕ) (answer : Answer) : Type 0 where
  pub refuses : (f : Refused) → (answer ≡ turned f) ↔ ClausesTurned cells plan text names room f
  pub untouched : (f : Refused) → answer ≡ turned f → after ≡ room

-- "State what such clauses answer, in clause order, and prove that for every goal it is the goal's common instance (W-203) with each hit row,
-- in row order": to every accepted goal the program answers one list, and that is the replies of W-203
pub record AnswersReplies (width : ℕ) (rows : List (List ℕ)) (clauses : List Clause) : Type 0 where
  pub replies : (goal : List ℕ) (all : List (List ℕ)) → IsGoal width goal → Answers clauses 0 goal all ↔ Replies goal rows all
  pub some : (goal : List ℕ) → IsGoal width goal → (all : List (List ℕ)) × Answers clauses 0 goal all
  pub one : (goal : List ℕ) (xs ys : List (List ℕ)) → IsGoal width goal → Answers clauses 0 goal xs → Answers clauses 0 goal ys → xs ≡ ys

-- "the predicates' names can't clash with them": a listed name is no predicate's word, `'P0'`, and no name that such a word quotes, `P0`
-- (`P` is 80); and two predicates have two words
pub record NoClash (text names : List ℕ) : Type 0 where
  pub quoted : (j k : ℕ) (w : List ℕ) → Nth (words_in text names) j w → w ≢ predicate_word k
  pub bare : (j k : ℕ) (w : List ℕ) → Nth (words_in text names) j w → w ≢ 80 ∷ decimal k
  pub apart : (j k : ℕ) → predicate_word j ≡ predicate_word k → j ≡ k

-- "Write an accepted plan as clauses by the translation in document 001, section 4: a predicate for the first state and each with several
-- branches, straight runs folded into heads": `program tree`, and its text where the room is enough
pub record HandedBack {width : ℕ} {rows : List (List ℕ)} (tree : Plan width rows) (text names room after : List ℕ) (answer : Answer) : Type 0 where
  pub full : (answer ≡ turned (refused reason.Room input.Lent (length (text_for text names (program tree)))))
      ↔ (length room < length (text_for text names (program tree)))
  pub told : (answer ≡ answered (length (program tree)) (length (text_for text names (program tree))))
      ↔ (length (text_for text names (program tree)) ≤ length room)
  pub wrote : length (text_for text names (program tree)) ≤ length room
      → after ≡ text_for text names (program tree) ++ drop (length (text_for text names (program tree))) room
  -- "Names come from W-201's list": the text is read as the program, its names numbered by the list, and as no other
  pub reads : Reads (words_in text names) (text_for text names (program tree)) (program tree)
  pub only : (clauses : List Clause) → Reads (words_in text names) (text_for text names (program tree)) clauses → clauses ≡ program tree
  pub answers : AnswersReplies width rows (program tree)
  pub no-clash : NoClash text names
  pub few : length (program tree) ≤ 127

abbrev pub HandsBack : (cells plan text names room after : List ℕ) → Answer → Type 0
HandsBack cells plan text names room after answer =
    (width : ℕ) (rows : List (List ℕ)) (tree : Plan width rows) → IsTable cells width rows → write tree ≡ plan → Listed text names rows
    → HandedBack tree text names room after answer

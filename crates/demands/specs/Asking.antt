-- The request "ask", a shop's rules and a job in Prolog text, as statements of what its two entries are given and what they answer ("Export what
-- `ask` uses: `dudowiej_read_goal_text` .. and `dudowiej_put_answer`"). proofs/Asking proves them of the entries' promises, and src/lib.rt ties
-- them to the entries.
--
-- `text` is the facts' text and `names` its list of names; `goal` is a goal's text and `new` the list of the names that the table has not. Rooms
-- are given before and after, as `cells` and `cells'`. `PredicateIs text p` is "the facts' predicate": where the first fact's name stands and its
-- number of arguments; a text that is turned away has none (goaltext/specs/Asked).
use Rattle.std.specs.Prelude.{ℕ, ◌≤◌, ◌<◌, ◌≡◌, ◌↔◌, length, take, drop}
use mathlib.Core.List.{List, ◌∷◌, ◌++◌, Memᴰ}
use Rattle.refusal.specs.Refusal.{Refused, refused, Answer, answered, turned}
use Rattle.refusal.specs.Read.{read, refuse}
use Rattle.refusal.specs.declared.Reason.TheVariants as reason
use Rattle.refusal.specs.declared.Input.TheVariants as input
use Rattle.table.specs.Table.{Table, table_of, goal_of, IsGoal}
use Rattle.grammar.specs.Grammar.{Fact}
use Rattle.grammar.specs.Taken.{Taken}
use Rattle.loading.specs.Load.{Loaded, Loads}
use Rattle.instance.specs.Reply.{Replies, Short}
use Rattle.termtext.specs.declared.Predicate.{Predicate}
use Rattle.termtext.specs.Saying.{words_in, words_of, predicate_in, said_in, known}
use Rattle.termtext.specs.Goal.{Whole, NoGoal, Ours, Goal, Asks, GoalRead}
use Rattle.goaltext.specs.Asked.{PredicateIs}
use Rattle.limits.specs.Limits.{most_goal_bytes, most_names, most_reply_cells}

-- A GOAL'S TEXT

-- "A goal is a term of the facts' predicate in W-201's grammar (final `.` allowed, not wanted) ..; names that the table does not have are
-- sound", and it is one of 01's for the table's width
pub record IsAsked (text names t : List ℕ) (goal : Goal) : Type 0 where
  pub p : Predicate
  pub predicate : PredicateIs text p
  pub listed : length names ≤ most_names
  pub bytes : length t ≤ most_goal_bytes
  pub asks : Asks (words_in text names) (predicate_in text p) p.width t goal
  pub is-goal : IsGoal p.width goal.cells

-- "room for cells and for new names"
pub record Roomy (goal : Goal) (cells new : List ℕ) : Type 0 where
  pub holds : length goal.cells ≤ length cells
  pub lists : length goal.new ≤ length new

-- this goal is answered and stands at the front of the two rooms, the rest of which is kept
pub record Gives (goal : Goal) (cells cells' new new' : List ℕ) (answer : Answer) : Type 0 where
  pub tells : answer ≡ answered (length goal.cells) (length goal.new)
  pub wrote : cells' ≡ goal.cells ++ drop (length goal.cells) cells
  pub listed : new' ≡ goal.new ++ drop (length goal.new) new

-- what turns a goal's text away, in this order, and the refusal that it gets: LENGTH of a list of over 2,048 names; BYTES; TEXT; OTHER where the
-- first fact begins; 01's of a goal; ROOM, of the cells first, then of the new names
pub data GoalTurned (text names t cells new : List ℕ) : Refused → Type 0 where
  too_many : most_names < length names → GoalTurned text names t cells new (refused reason.Length input.Table 0)
  bytes : length names ≤ most_names → most_goal_bytes < length t → GoalTurned text names t cells new (refused reason.Bytes input.Text 0)
  no_text : (k : ℕ) → length names ≤ most_names → length t ≤ most_goal_bytes → NoGoal t k → GoalTurned text names t cells new (refused reason.Text input.Text k)
  other : (p : Predicate) (whole : List ℕ) (f : Fact) (fs : List Fact) → length names ≤ most_names → length t ≤ most_goal_bytes → PredicateIs text p
      → Whole t whole (f ∷ fs) → (Ours (predicate_in text p) p.width whole f fs → ⊥)
      → GoalTurned text names t cells new (refused reason.Other input.Text f.start)
  no-goal : (p : Predicate) (goal : Goal) (refusal : Refused) → length names ≤ most_names → length t ≤ most_goal_bytes → PredicateIs text p
      → Asks (words_in text names) (predicate_in text p) p.width t goal → goal_of p.width goal.cells ≡ refuse refusal
      → GoalTurned text names t cells new refusal
  no_cells : (goal : Goal) → IsAsked text names t goal → length cells < length goal.cells
      → GoalTurned text names t cells new (refused reason.Room input.Lent (length goal.cells))
  no_names : (goal : Goal) → IsAsked text names t goal → length goal.cells ≤ length cells → length new < length goal.new
      → GoalTurned text names t cells new (refused reason.Room input.Lent (length goal.new))

-- exactly the goals that there is room for are accepted, each as itself; all else is refused as above, with nothing written to either room
pub record ReadsGoal (text names t cells cells' new new' : List ℕ) (answer : Answer) : Type 0 where
  pub accepts : (goal : Goal) → Gives goal cells cells' new new' answer ↔ (IsAsked text names t goal × Roomy goal cells new)
  pub refuses : (f : Refused) → (answer ≡ turned f) ↔ GoalTurned text names t cells new f
  pub untouched : (f : Refused) → answer ≡ turned f → (cells' ≡ cells) × (new' ≡ new)
  -- ROOM's place is above the cells lent where it is that of the cells, and otherwise it is that of the names
  pub room : (goal : Goal) (place : ℕ) → IsAsked text names t goal → answer ≡ turned (refused reason.Room input.Lent place)
      → (length cells < place → place ≡ length goal.cells) × (place ≤ length cells → place ≡ length goal.new)
  -- facts that are refused have no predicate: every text of a goal is OTHER
  pub none : (g : Refused) (whole : List ℕ) (f : Fact) (fs : List Fact) → Taken text (refuse g) → length names ≤ most_names → length t ≤ most_goal_bytes
      → Whole t whole (f ∷ fs) → answer ≡ turned (refused reason.Other input.Text f.start)

-- AN ANSWER'S TEXT

-- what turns an answer away, and the refusal that it gets: BIG, for no reply has over 1,024 cells (W-203); then ROOM
pub data AnswerTurned (text names goal new cells room : List ℕ) : Refused → Type 0 where
  big : most_reply_cells < length cells → AnswerTurned text names goal new cells room (refused reason.Big input.Goal 0)
  no_room : (p : Predicate) → length cells ≤ most_reply_cells → PredicateIs text p → length room < length (said_in text names goal new p cells)
      → AnswerTurned text names goal new cells room (refused reason.Room input.Lent (length (said_in text names goal new p cells)))

-- "the reply's cells to bytes": the text of an answer (termtext/specs/Saying) comes first in the room, the rest of which is kept; refused as above,
-- with nothing written
pub record PutsAnswer (text names goal new cells room room' : List ℕ) (answer : Answer) : Type 0 where
  pub says : (p : Predicate) → length cells ≤ most_reply_cells → PredicateIs text p → length (said_in text names goal new p cells) ≤ length room
      → (answer ≡ answered (length cells) (length (said_in text names goal new p cells)))
      × (room' ≡ said_in text names goal new p cells ++ drop (length (said_in text names goal new p cells)) room)
  pub refuses : (f : Refused) → (answer ≡ turned f) ↔ AnswerTurned text names goal new cells room f
  pub untouched : (f : Refused) → answer ≡ turned f → room' ≡ room

-- "The text of an answer is a promised, total library function (cells and the list of names to bytes, and W-201's reader of that text gives
-- the cells back: a theorem)": for each of the replies of a table that was read from a text, to a goal that was read from one, the bytes that are
-- answered are read, by the table's names and the goal's new ones, as a goal of exactly the reply's cells. W-203's entry gives no reply of over
-- 1,024 cells (W-209, BIG): what it gives is `Short` (`small` of specs/Replies)
abbrev pub ReadsBack : (text names goal new cells room' : List ℕ) → Answer → Type 0
ReadsBack text names goal new cells room' answer =
    (c n : ℕ) (L : Loaded) (T : Table) (p : Predicate) (G : Goal) (all : List (List ℕ)) → Loads text c n (read L) → names ≡ L.names
    → table_of L.cells ≡ read T → PredicateIs text p → GoalRead (words_in text names) (predicate_in text p) p.width goal (read G)
    → new ≡ G.new → Replies G.cells T.rows all → Memᴰ cells all → Short cells
    → (said bytes : ℕ) → answer ≡ answered said bytes
    → (H : Goal) → Asks (words_of text names goal new) (predicate_in text p) p.width (take bytes room') H ↔ (H ≡ known cells)

-- A goal's text: "a term of the facts' predicate in W-201's grammar (final `.` allowed, not wanted), with named variables repeated as in
-- Prolog; names that the table does not have are sound and fit no name of it".
use Rattle.std.specs.Prelude.{ℕ, ◌≤◌, ◌<◌, ◌≡◌, List, [], ◌∷◌, ◌++◌, map, length}
use Rattle.std.proofs.Math.Seq.{slice}
use Rattle.refusal.specs.Refusal.{Refused, refused}
use Rattle.refusal.specs.Read.{Read, read, refuse}
use Rattle.refusal.specs.declared.Reason.TheVariants as reason
use Rattle.refusal.specs.declared.Input.TheVariants as input
use Rattle.table.specs.Table.{goal_of}
use Rattle.grammar.specs.Grammar.{Fact, Text}
use Rattle.grammar.specs.Meaning.{Place, entry_of}
use Rattle.grammar.specs.Numbering.{Words, words_at, Firsts, NumberedRow}
use Rattle.grammar.specs.Stops.{Stops}
use Rattle.limits.specs.Limits.{most_goal_bytes}

-- a goal with a full stop (46) on a line of its own after it, so that no comment takes it in
abbrev pub with_stop : List ℕ → List ℕ
with_stop t = t ++ (10 ∷ 46 ∷ [])

-- "final `.` allowed, not wanted": the text that is read for a goal, and its facts. It is the goal's own text where that is one, and
-- otherwise, where it ends too early, the same with a full stop
pub data Whole (t : List ℕ) : List ℕ → List Fact → Type 0 where
  stopped : {fs : List Fact} → Text t fs → Whole t t fs
  unstopped : {fs : List Fact} → Stops t (length t) → Text (with_stop t) fs → Whole t (with_stop t) fs

-- TEXT's place: where no text could go on so; or the goal's end, where a full stop does not make it one
pub data NoGoal (t : List ℕ) : ℕ → Type 0 where
  at_byte : {k : ℕ} → k < length t → Stops t k → NoGoal t k
  at-end : Stops t (length t) → ((fs : List Fact) → Text (with_stop t) fs → ⊥) → NoGoal t (length t)

-- the facts of a goal are one, of the table's predicate and width
pub record Ours (predicate : List ℕ) (width : ℕ) (whole : List ℕ) (f : Fact) (fs : List Fact) : Type 0 where
  pub single : fs ≡ []
  pub called : slice f.start f.end whole ≡ predicate
  pub wide : f.width ≡ width

-- a goal: its cells, and "names that the table does not have", a list as W-201's, with places in the goal's bytes
pub record Goal : Type 0 where
  pub cells : List ℕ
  pub new : List ℕ

-- One fact's symbols by the words of a table's names: its names are numbered on from those, as if it stood after the facts
pub record GoalNumbered (words : Words) (whole : List ℕ) (f : Fact) (goal : Goal) : Type 0 where
  pub places : List Place
  pub firsts : Firsts whole words f.symbols places
  pub listed : goal.new ≡ map entry_of places
  pub row : NumberedRow whole (words ++ words_at whole places) [] f.symbols goal.cells

-- a text is this goal
pub record Asks (words : Words) (predicate : List ℕ) (width : ℕ) (t : List ℕ) (goal : Goal) : Type 0 where
  pub whole : List ℕ
  pub fact : Fact
  pub text : Whole t whole (fact ∷ [])
  pub ours : Ours predicate width whole fact []
  pub numbered : GoalNumbered words whole fact goal

-- What the reader of a goal answers: BYTES where the goal with its full stop is over 65,535 bytes; TEXT; OTHER where the first fact begins;
-- then 01's of a goal, with places in its cells
pub data GoalRead (words : Words) (predicate : List ℕ) (width : ℕ) (t : List ℕ) : Read Goal → Type 0 where
  too_long : most_goal_bytes < length t → GoalRead words predicate width t (refuse (refused reason.Bytes input.Text 0))
  no_text : {k : ℕ} → length t ≤ most_goal_bytes → NoGoal t k → GoalRead words predicate width t (refuse (refused reason.Text input.Text k))
  other : {whole : List ℕ} {f : Fact} {fs : List Fact} → length t ≤ most_goal_bytes → Whole t whole (f ∷ fs)
      → (Ours predicate width whole f fs → ⊥) → GoalRead words predicate width t (refuse (refused reason.Other input.Text f.start))
  no-goal : {goal : Goal} {f : Refused} → length t ≤ most_goal_bytes → Asks words predicate width t goal → goal_of width goal.cells ≡ refuse f
      → GoalRead words predicate width t (refuse f)
  is-goal : {goal : Goal} {vars : ℕ} → length t ≤ most_goal_bytes → Asks words predicate width t goal → goal_of width goal.cells ≡ read vars
      → GoalRead words predicate width t (read goal)

-- What the reader's parts hand to one another. These definitions describe the code's own state.
use Rattle.std.specs.Prelude.{ℕ, ◌+◌, ◌≤◌, ◌<◌, ◌≡◌, Bool, true, false, List, ◌∷◌, length, get_or, set, take, Option, Some, None, Result, Ok, Err}
use Rattle.std.proofs.Math.Seq.{slice}
use Rattle.std.proofs.lemmas.List.Edits.{sets}
use Rattle.refusal.specs.Read.{Read, read, and_then}
use Rattle.refusal.specs.declared.Refusal.{Refusal}
use Rattle.table.specs.Table.{goal_of}
use Rattle.grammar.specs.Grammar.{Fact, Text}
use Rattle.grammar.specs.Stops.{Stops}
use Rattle.grammar.specs.Numbering.{Words}
use Rattle.scan.specs.declared.Counted.{Counted}
use Rattle.slices.specs.declared.Span.{Span}
use Rattle.termtext.specs.Saying.{word_in, words_in, predicate_in}
use Rattle.termtext.specs.Goal.{with_stop, Whole, NoGoal, Goal, GoalRead}
use Rattle.termtext.specs.code.Renumber.{numbers_from, new_ones, new_cells}
use Rattle.termtext.specs.declared.Predicate.{Predicate}
use Rattle.goaltext.specs.Asked.{Answers}
use Rattle.goaltext.specs.declared.GoalTextSize.{GoalTextSize}
use Rattle.goaltext.specs.declared.names.Numbered.{Numbered}
use Rattle.limits.specs.Limits.{most_goal_bytes}

-- where the name of a text's first fact stands
abbrev pub NameIs : List ℕ → Span → Type 0
NameIs t s = (f : Fact) (fs : List Fact) → Text t (f ∷ fs) → (s.start ≡ f.start) × (s.end ≡ f.end)

-- a text, or where none goes on so
abbrev pub EndsAre : List ℕ → Option ℕ → Type 0
EndsAre t None = (fs : List Fact) × Text t fs
EndsAre t (Some k) = Stops t k

-- of a goal with a full stop after it, how many bytes are read
abbrev pub SizeFits : List ℕ → Result ℕ ℕ → Type 0
SizeFits text (Ok m) = m ≤ length text
SizeFits text (Err k) = Unit {0}

abbrev pub SizeOf : (t text : List ℕ) → Result ℕ ℕ → Type 0
SizeOf t text (Ok m) = (fs : List Fact) × Whole t (take m text) fs
SizeOf t text (Err k) = NoGoal t k

pub record SizeIs (text : List ℕ) (n : ℕ) (r : Result ℕ ℕ) : Type 0 where
  pub fits : SizeFits text r
  pub read : (t : List ℕ) → text ≡ with_stop t → n ≡ length t → SizeOf t text r

-- one fact, with the name and the width of another text's
pub record Same (text : List ℕ) (p : Predicate) (whole : List ℕ) (s : Span) (c : Counted) : Type 0 where
  pub one : c.facts ≡ 1
  pub wide : p.width ≡ c.width
  pub called : slice s.start s.end whole ≡ predicate_in text p

abbrev pub OursIs : (text : List ℕ) (p : Predicate) (whole : List ℕ) (s : Span) (c : Counted) → Bool → Type 0
OursIs text p whole s c true = Same text p whole s c
OursIs text p whole s c false = Same text p whole s c → ⊥

-- the names of a goal's list: their numbers, and those that are new, each stored from the start of its room
pub record NamesNumbered (words : Words) (whole list numbers numbers' new new' : List ℕ) (count : ℕ) : Type 0 where
  pub are : numbers' ≡ sets numbers 0 (numbers_from words 0 (words_in whole list))
  pub news : new' ≡ sets new 0 (new_ones (word_in whole) words list)
  pub many : count ≡ length (new_ones (word_in whole) words list)

-- a name by where it stands among the known ones; a new one is stored behind those before it
pub data NumberIs (known at name count : ℕ) (new : List ℕ) : List ℕ → Numbered → Type 0 where
  listed : at < known → NumberIs known at name count new new (record { number = at; count = count })
  fresh : known ≤ at → NumberIs known at name count new (set new count name) (record { number = known + count; count = count + 1 })

-- a fact's cells with its names' numbers looked up, and its new names; or why it is no goal
abbrev pub goal_by : (words : Words) (width : ℕ) (whole row list numbers : List ℕ) → Read Goal
goal_by words width whole row list numbers =
    and_then (goal_of width row) (λ (vars : ℕ). read (record { cells = new_cells numbers row; new = new_ones (word_in whole) words list }))

pub record FactAsked (text names : List ℕ) (width : ℕ) (whole row list cells cells' new new' : List ℕ) (r : Result GoalTextSize Refusal) : Type 0 where
  pub numbers : List ℕ
  pub are : (k : ℕ) → k < length list → get_or numbers k 0 ≡ get_or (numbers_from (words_in text names) 0 (words_in whole list)) k 0
  pub answers : Answers (goal_by (words_in text names) width whole row list numbers) cells cells' new new' r

-- what a goal's text is answered with, and what is written
pub record Reads (text names : List ℕ) (p : Predicate) (t cells cells' new new' : List ℕ) (r : Result GoalTextSize Refusal) : Type 0 where
  pub says : Read Goal
  pub rule : GoalRead (words_in text names) (predicate_in text p) p.width t says
  pub answers : Answers says cells cells' new new' r

-- a goal's text, whole; and with a full stop after it
abbrev pub TextAsked : (text names : List ℕ) (p : Predicate) (whole cells cells' new new' : List ℕ) → Result GoalTextSize Refusal → Type 0
TextAsked text names p whole cells cells' new new' r =
    (t : List ℕ) (fs : List Fact) → Whole t whole fs → length t ≤ most_goal_bytes → Reads text names p t cells cells' new new' r

abbrev pub StoppedAsked : (text names : List ℕ) (p : Predicate) (stopped cells cells' new new' : List ℕ) → Result GoalTextSize Refusal → Type 0
StoppedAsked text names p stopped cells cells' new new' r =
    (t : List ℕ) → stopped ≡ with_stop t → length t ≤ most_goal_bytes → Reads text names p t cells cells' new new' r

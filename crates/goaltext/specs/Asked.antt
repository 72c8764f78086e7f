-- What the reader of a goal's text answers (termtext/specs/Goal), and what its rooms then hold.
use Rattle.std.specs.Prelude.{ℕ, ◌≤◌, ◌<◌, ◌≡◌, List, [], ◌∷◌, length, Result, Ok, Err}
use Rattle.refusal.specs.Refusal.{Refused, refused, told, Answer, answered, turned}
use Rattle.refusal.specs.Read.{Read, read, refuse}
use Rattle.refusal.specs.declared.Reason.TheVariants as reason
use Rattle.refusal.specs.declared.Input.TheVariants as input
use Rattle.refusal.specs.declared.Refusal.{Refusal}
use Rattle.grammar.specs.Grammar.{Fact}
use Rattle.grammar.specs.Taken.{Taken}
use Rattle.loading.specs.Load.{put_first}
use Rattle.termtext.specs.Saying.{words_in, predicate_in}
use Rattle.termtext.specs.Goal.{Goal, GoalRead}
use Rattle.termtext.specs.declared.Predicate.{Predicate}
use Rattle.goaltext.specs.declared.GoalTextSize.{GoalTextSize}
use Rattle.limits.specs.Limits.{most_names}

-- a fact's predicate: where its name stands, and how many arguments it has
abbrev pub predicate_of : Fact → Predicate
predicate_of f = record { start = f.start; end = f.end; width = f.width }

-- "the facts' predicate" is the first one's. A text that is turned away has none
pub data PredicateIs (t : List ℕ) : Predicate → Type 0 where
  first : {f : Fact} {fs : List Fact} → Taken t (read (f ∷ fs)) → PredicateIs t (predicate_of f)
  none : {g : Refused} → Taken t (refuse g) → PredicateIs t (record { start = 0; end = 0; width = 0 })

-- no table has over 2,048 names (01, LENGTH): a list with more is refused as that table is
pub data AskedAs (text names : List ℕ) (p : Predicate) (goal : List ℕ) : Read Goal → Type 0 where
  too_many : most_names < length names → AskedAs text names p goal (refuse (refused reason.Length input.Table 0))
  asked : {says : Read Goal} → length names ≤ most_names → GoalRead (words_in text names) (predicate_in text p) p.width goal says
      → AskedAs text names p goal says

-- how many cells it has, and how many names that the table has not; or why it is turned away
abbrev pub said : Read Goal → Answer
said (read g) = answered (length g.cells) (length g.new)
said (refuse f) = turned f

abbrev pub goal_text_told : Result GoalTextSize Refusal → Answer
goal_text_told (Ok size) = answered size.cells size.names
goal_text_told (Err f) = turned (told f)

-- what is written of a goal; and of a refusal, nothing
abbrev pub goal_cells : Read Goal → List ℕ
goal_cells (read g) = g.cells
goal_cells (refuse f) = []

abbrev pub new_of : Read Goal → List ℕ
new_of (read g) = g.new
new_of (refuse f) = []

-- each at the front of its room, the rest of which is kept
pub record Answers (says : Read Goal) (cells cells' new new' : List ℕ) (r : Result GoalTextSize Refusal) : Type 0 where
  pub tells : goal_text_told r ≡ said says
  pub wrote : cells' ≡ put_first (goal_cells says) cells
  pub listed : new' ≡ put_first (new_of says) new

-- "the reading of a goal against a list of names": a goal's text, by the names of a text of facts and its predicate
pub record GoalAsked (text names : List ℕ) (p : Predicate) (goal cells cells' new new' : List ℕ) (r : Result GoalTextSize Refusal) : Type 0 where
  pub says : Read Goal
  pub rule : AskedAs text names p goal says
  pub answers : Answers says cells cells' new new' r

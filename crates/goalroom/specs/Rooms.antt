-- What the entry for a goal's text answers ("Export what `ask` uses: `dudowiej_read_goal_text` (the facts' text and names, the goal's bytes,
-- room for cells and for new names)"), and what its two rooms then hold.
use Rattle.std.specs.Prelude.{ℕ, ◌≤◌, ◌<◌, List, length, Result}
use Rattle.refusal.specs.Refusal.{Refused, refused}
use Rattle.refusal.specs.Read.{Read, read, refuse}
use Rattle.refusal.specs.declared.Reason.TheVariants as reason
use Rattle.refusal.specs.declared.Input.TheVariants as input
use Rattle.termtext.specs.Goal.{Goal}
use Rattle.termtext.specs.declared.Predicate.{Predicate}
use Rattle.goaltext.specs.Asked.{PredicateIs, AskedAs, Answers}
use Rattle.goaltext.specs.declared.GoalTextSize.{GoalTextSize}
use Rattle.refusal.specs.declared.Refusal.{Refusal}

-- For a text of facts with its list of names, a goal's text, and rooms for so many cells and so many names: what the reader of a goal refuses,
-- by the facts' predicate; then ROOM, whose place is what is needed, of the cells first and then of the names, as W-201 has it
pub data GoalFits (text names goal : List ℕ) (cells new : ℕ) : Read Goal → Type 0 where
  not-read : {p : Predicate} {f : Refused} → PredicateIs text p → AskedAs text names p goal (refuse f) → GoalFits text names goal cells new (refuse f)
  no_cells : {p : Predicate} {g : Goal} → PredicateIs text p → AskedAs text names p goal (read g) → cells < length g.cells
      → GoalFits text names goal cells new (refuse (refused reason.Room input.Lent (length g.cells)))
  no_names : {p : Predicate} {g : Goal} → PredicateIs text p → AskedAs text names p goal (read g) → length g.cells ≤ cells
      → new < length g.new
      → GoalFits text names goal cells new (refuse (refused reason.Room input.Lent (length g.new)))
  fits : {p : Predicate} {g : Goal} → PredicateIs text p → AskedAs text names p goal (read g) → length g.cells ≤ cells
      → length g.new ≤ new
      → GoalFits text names goal cells new (read g)

-- the promise: how many cells and how many new names there are, each at the front of its room; and a refusal writes nothing
pub record GoalInto (text names goal cells cells' new new' : List ℕ) (r : Result GoalTextSize Refusal) : Type 0 where
  pub says : Read Goal
  pub rule : GoalFits text names goal (length cells) (length new) says
  pub answers : Answers says cells cells' new new' r

-- What the entry for an answer's text answers ("Export what `ask` uses: .. `dudowiej_put_answer` (the reply's cells to bytes)"), and what its
-- room then holds.
use Rattle.std.specs.Prelude.{ℕ, ◌≤◌, ◌<◌, ◌≡◌, List, length, Result, Ok, Err}
use Rattle.refusal.specs.Refusal.{refused, told, Answer, answered, turned}
use Rattle.refusal.specs.declared.Reason.TheVariants as reason
use Rattle.refusal.specs.declared.Input.TheVariants as input
use Rattle.loading.specs.Load.{put_first}
use Rattle.termtext.specs.Saying.{said_in}
use Rattle.termtext.specs.declared.Predicate.{Predicate}
use Rattle.goaltext.specs.Asked.{PredicateIs}
use Rattle.answerroom.specs.declared.AnswerTextSize.{AnswerTextSize}
use Rattle.refusal.specs.declared.Refusal.{Refusal}
use Rattle.limits.specs.Limits.{most_reply_cells}

-- how many cells are said and how many bytes they have; or a refusal
abbrev pub answer_told : Result AnswerTextSize Refusal → Answer
answer_told (Ok size) = answered size.cells size.bytes
answer_told (Err f) = turned (told f)

-- The promise. No reply has over 1,024 cells (W-203), so more of them are refused as a reply is that would have them: BIG. ROOM's place is the
-- bytes needed. Refused: nothing is written. Otherwise the text comes first, and the rest of the room is kept
pub data AnswerInto (text names goal new cells room room' : List ℕ) (r : Result AnswerTextSize Refusal) : Type 0 where
  too-big : most_reply_cells < length cells → answer_told r ≡ turned (refused reason.Big input.Goal 0) → room' ≡ room
      → AnswerInto text names goal new cells room room' r
  no_room : (p : Predicate) → length cells ≤ most_reply_cells → PredicateIs text p → length room < length (said_in text names goal new p cells)
      → answer_told r ≡ turned (refused reason.Room input.Lent (length (said_in text names goal new p cells))) → room' ≡ room
      → AnswerInto text names goal new cells room room' r
  is_said : (p : Predicate) → length cells ≤ most_reply_cells → PredicateIs text p → length (said_in text names goal new p cells) ≤ length room
      → answer_told r ≡ answered (length cells) (length (said_in text names goal new p cells))
      → room' ≡ put_first (said_in text names goal new p cells) room
      → AnswerInto text names goal new cells room room' r

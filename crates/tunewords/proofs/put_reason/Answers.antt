use Rattle.message.specs.Words.{ascii}
use Rattle.tunewords.specs.Tuned.{full_reason}
use borrow.Author.Rules.{rules}
use Rattle.tunewords.proofs.put_reason.Goals as goal

pub returns-in-Goals : goal.returns-in-Goals
unfolding ascii full_reason
returns-in-Goals c = rw c.in-Goals.is c.put_word.ensures

pub returns-in-Cells : goal.returns-in-Cells
unfolding ascii full_reason
returns-in-Cells c = rw c.in-Cells.is c.put_word-in-Cells.ensures

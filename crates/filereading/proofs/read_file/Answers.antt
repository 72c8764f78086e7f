use mathlib.Core.Path.{refl, sym, ap}
use native.Mathlib.Omega.{arith}
use borrow.Author.Tests.{eqb-true}
use Rattle.filing.specs.Files.{not-read}
use Rattle.filing.specs.Answers.{contents_told}
use Rattle.filing.proofs.ReadingLaws.{no_byte, no_blocks}
use Rattle.filereading.proofs.read_file.Goals as goal
use Rattle.filereading.proofs.read_file.Goals.{then-is_empty-via-then-is_empty, then-is_empty-via-else-is_empty+then-file-ne0}

pub returns-then-is_empty : goal.returns-then-is_empty
returns-then-is_empty c = elim c.then-is_empty.branch [
  | then-is_empty-via-then-is_empty w ↦ not-read _ (no_byte c.args.file.now (eqb-true _ _ (sym w.if-is_empty.ensures))) (ap contents_told c.turn.ensures) refl refl
  | then-is_empty-via-else-is_empty+then-file-ne0 w ↦ not-read _ (no_blocks c.args.file.now (λ e. omega arith)) (ap contents_told c.turn.ensures) refl refl
]

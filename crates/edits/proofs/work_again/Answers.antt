use Rattle.std.proofs.Common.{sym, arith}
use lib.Seq.{length-take-le}
use Rattle.edits.proofs.AgainLaws.{again-held, again-read}
use Rattle.edits.proofs.work_again.Goals as goal

pub returns-in_err-read : goal.returns-in_err-read
returns-in_err-read c = λ figure T row x y. again-read x y c.fill.ensures c.in_err-read.was

pub returns : goal.returns
returns c = λ figure T row x y. again-held x y c.fill.ensures c.in_ok-read.was c.copy.ensures c.put.ensures

-- After i turns the first i records stand in the relation of `ask_one` to what was there, and the others are as they were (`Upto`).
use Rattle.shift.specs.code.Asked.{AskedBy}
use Rattle.shift.specs.code.Upto.{Upto}
use Rattle.shift.proofs.jobs.ask_all.Given as goal

abbrev pub invariant-loop-job : goal.invariant-loop-job
invariant-loop-job l = Upto (AskedBy l.numbers l.noted l.cells) l.job-index l.initial.jobs l.jobs

use Rattle.std.proofs.Common.{◌≡◌, take}
use Rattle.answer.specs.Jobs.{bits_of}
use Rattle.shift.specs.code.Asked.{Hits}
use Rattle.shift.proofs.jobs.bits.Given as goal

abbrev pub invariant-loop-i : goal.invariant-loop-i
invariant-loop-i l = Hits l.fn.room l.fn.n → l.rows ≡ bits_of (take l.i l.fn.room)

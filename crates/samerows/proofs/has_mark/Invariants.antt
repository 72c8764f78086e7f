-- It is found, or is one of those that are left, exactly when it is one of all.
use Rattle.std.proofs.Common.{◌≡◌, ◌||◌, drop}
use Rattle.samerows.specs.Marks.{has}
use Rattle.samerows.proofs.has_mark.Given as goal

abbrev pub invariant-loop-m : goal.invariant-loop-m
invariant-loop-m l = (l.found || has l.mark (drop l.m-index l.marks)) ≡ has l.mark l.marks

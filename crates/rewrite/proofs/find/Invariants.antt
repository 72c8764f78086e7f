use Rattle.std.proofs.Common.{◌≡◌, ◌+◌, take}
use lib.Seq.{slice}
use Rattle.instance.specs.Rewrite.{place}
use Rattle.rewrite.proofs.find.Given as goal

abbrev pub invariant-loop-i : goal.invariant-loop-i
invariant-loop-i l = l.i + place l.v (slice l.i l.n l.met) ≡ place l.v (take l.n l.met)

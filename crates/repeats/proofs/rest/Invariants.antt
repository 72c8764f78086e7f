-- `rest` (src/lib.rt): one branch after another, up to the first that fails.
use Prim.Native.Nat.{◌-◌, ◌≤◌}
use lib.ListN.{replicate}
use Rattle.answer.specs.Skeleton.{hole}
use Rattle.alone.specs.code.Alone.{skeletons_of}
use Rattle.alone.specs.code.Rest.{Begins, Under}
use Rattle.limits.specs.Limits.{most_branches}
use Rattle.repeats.proofs.rest.Given as goal

abbrev pub invariant-loop-i : goal.invariant-loop-i
invariant-loop-i l =
    ((b : Begins l.notes l.rep l.sib l.bound l.args l.until l.refs l.from l.to)
    → Under b.R b.x (skeletons_of b.chain (replicate b.k hole)) l.notes l.sib l.own l.kids l.cls l.terms l.keep l.from l.i l.to)

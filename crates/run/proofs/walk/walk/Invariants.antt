use Prim.Native.Nat.{◌+◌, ◌*◌, ◌-◌, ◌≤◌, ◌<◌}
use mathlib.Core.Path.{◌≡◌}
use lib.ListN.{length}
use Rattle.term.specs.Unify.{renamed}
use Rattle.walking.specs.code.Link.{Tables}
use Rattle.walking.specs.code.Walk.{Begun}
use Rattle.walking.proofs.WalkLaws.{Walking}
use Rattle.limits.specs.Limits.{most_branches}
use Rattle.run.proofs.walk.walk.Given as goal

abbrev pub invariant-loop-i : goal.invariant-loop-i
invariant-loop-i l =
    Tables (renamed l.goal) l.sib l.rep × (length l.room ≡ length l.initial.room) × (l.hits ≤ l.i) × (l.tried + l.apart ≤ most_branches * l.i) × (l.i < 8192)
    × ((b : Begun l.notes l.branches l.goal l.initial.room l.width) → Walking b l.rep l.sib l.bound l.args l.until l.refs l.room l.i l.hits (l.tried + l.apart))

abbrev pub decreases-loop-i : goal.decreases-loop-i
decreases-loop-i l = l.end - l.i

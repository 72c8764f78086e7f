-- `pass::pass_in` meets its contract: the hits one after another.
use Prim.Native.Nat.{ℕ, ◌-◌, ◌*◌, ◌≤◌}
use mathlib.Core.Path.{◌≡◌}
use mathlib.Core.List.{List}
use lib.ListN.{length}
use Rattle.instance.specs.code.Passes.{Pass}
use Rattle.replies.specs.code.Sums.{Passing}
use Rattle.limits.specs.Limits.{most_meeting_cells}
use Rattle.replies.proofs.pass.pass_in.Given as goal

abbrev pub invariant-loop-i : goal.invariant-loop-i
invariant-loop-i l =
    (length l.hits ≤ 64) × (length l.cells ≡ length l.initial.cells) × (length l.other ≡ length l.initial.other) × (length l.room ≡ length l.initial.room)
    × (l.sum ≤ l.i * most_meeting_cells) × (l.on ≤ length l.room)
    × ((all : List (List ℕ)) → Passing l.table l.starts l.rows l.goal l.hits all → Pass l.table l.goal l.hits l.i all l.initial.room l.room l.on l.sum)

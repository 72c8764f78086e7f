-- The blocks so far are counted and put, and the place is no further than there are blocks from the first on.
use Rattle.std.proofs.Common.{◌≡◌, ◌-◌, ◌≤◌, length}
use Rattle.blocks.proofs.LookLaws.{Looking}
use Rattle.blocks.proofs.run_in.Given as goal

abbrev pub invariant-loop-i : goal.invariant-loop-i
invariant-loop-i l =
    (length l.block ≡ 128) × (l.i - l.from ≤ l.count - l.from) × Looking l.file l.from l.initial.room l.room l.on l.i

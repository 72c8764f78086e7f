-- `meet` meets its contract: the loop over the steps.
use Prim.Native.Nat.{ℕ, ◌≤◌}
use mathlib.Core.Path.{◌≡◌}
use mathlib.Core.List.{List}
use lib.ListN.{length}
use Rattle.meeting.specs.code.Turns.{MeetingAt, Sound, at_start, to_do}
use Rattle.meeting.proofs.meet.Given as goal

abbrev pub invariant-loop-k : goal.invariant-loop-k
invariant-loop-k l =
    (length l.cells ≡ length l.initial.cells) × (length l.other ≡ length l.initial.other) × Sound (length l.initial.cells) l.k × (l.k.turns ≤ 64)
    × ((row goal : List ℕ) → MeetingAt row goal l.initial.cells (at_start l.len l.n) → MeetingAt row goal l.cells l.k)

abbrev pub decreases-loop-k : goal.decreases-loop-k
decreases-loop-k l = to_do l.k

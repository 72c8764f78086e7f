use Rattle.std.proofs.Common.{length, ◌-◌, ◌≡◌, ◌≤◌}
use Rattle.console.proofs.read_input.Given as goal

abbrev pub invariant-loop-to : goal.invariant-loop-to
invariant-loop-to l = l.to ≤ length l.buf × length l.buf ≡ length l.initial.buf

abbrev pub decreases-loop-to : goal.decreases-loop-to
decreases-loop-to l = length l.initial.buf - l.to

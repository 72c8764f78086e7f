use Rattle.std.proofs.Common.{◌≡◌, ◌-◌, false, length}
use Rattle.goallines.proofs.Lines.read_piece.Given as goal

abbrev pub invariant-loop-to : goal.invariant-loop-to
invariant-loop-to l = (l.self.going ≡ false) × (length l.self.buf.now ≡ length l.initial.self.buf.now)

abbrev pub decreases-loop-to : goal.decreases-loop-to
decreases-loop-to l = length l.initial.self.buf.now - l.to

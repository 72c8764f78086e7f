-- The cells from the n-th on are the same.
use Rattle.std.proofs.Common.{◌≡◌, length, drop}
use Rattle.samerows.proofs.same_cells.Given as goal

abbrev pub invariant-loop-n : goal.invariant-loop-n
invariant-loop-n l = (length l.a ≡ length l.b) × (drop l.n l.a ≡ drop l.n l.b)

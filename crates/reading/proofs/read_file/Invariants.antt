use Rattle.std.proofs.Common.{length, ◌-◌}
use Rattle.reading.proofs.read_file.Given as goal

abbrev pub decreases-loop-to : goal.decreases-loop-to
decreases-loop-to l = length l.buf - l.to

use mathlib.Core.Path.{◌≡◌}
use Rattle.linecut.specs.Cut.{line_end}
use Rattle.linecut.proofs.line_end.Given as goal

abbrev pub invariant-loop-i : goal.invariant-loop-i
invariant-loop-i l = line_end l.buf l.i l.to ≡ line_end l.buf l.from l.to

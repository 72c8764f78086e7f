use Prim.Native.Nat.{◌≤◌}
use lib.ListN.{length, drop}
use Rattle.octets.proofs.PutLaws.{Putting}
use Rattle.textlines.specs.Lines.{name_lines}
use Rattle.textlines.proofs.lines.put_names.Given as goal

abbrev pub invariant-loop-name : goal.invariant-loop-name
invariant-loop-name l = (l.name-index ≤ length l.names) × Putting l.initial.out l.out l.to l.on (name_lines (drop l.name-index l.names)) (name_lines l.names)

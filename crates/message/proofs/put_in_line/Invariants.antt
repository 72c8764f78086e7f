use Prim.Native.Nat.{◌≤◌}
use mathlib.Core.List.{map}
use lib.ListN.{length, drop}
use Rattle.octets.proofs.PutLaws.{Putting}
use Rattle.message.specs.Message.{in_line}
use Rattle.message.proofs.put_in_line.Given as goal

abbrev pub invariant-loop-byte : goal.invariant-loop-byte
invariant-loop-byte l = (l.byte-index ≤ length l.goal) × Putting l.initial.out l.out l.to l.on (map in_line (drop l.byte-index l.goal)) (map in_line l.goal)

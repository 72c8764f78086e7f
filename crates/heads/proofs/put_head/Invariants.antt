use Prim.Native.Nat.{◌≤◌}
use lib.ListN.{length, drop}
use Rattle.octets.proofs.PutLaws.{Putting}
use Rattle.clauses.specs.Translate.{head_of}
use Rattle.heads.proofs.HeadLaws.{said_from}
use Rattle.heads.proofs.put_head.Given as goal

abbrev pub invariant-loop-c : goal.invariant-loop-c
invariant-loop-c l =
    (l.c-index ≤ length l.head) × (l.v ≤ l.c-index) × Putting l.initial.out l.out l.to l.on (said_from l.v (drop l.c-index l.head)) (head_of l.head)

use Prim.Native.Nat.{◌-◌, ◌*◌}
use lib.ListN.{drop}
use Rattle.octets.specs.Octets.{bytes_of}
use Rattle.octets.proofs.PutLaws.{Putting}
use Rattle.blocks.specs.Blocks.{blocks_from}
use Rattle.filewriting.proofs.put_blocks.Given as goal

-- the blocks so far are put, those from the next on are left
abbrev pub invariant-loop-i : goal.invariant-loop-i
invariant-loop-i l =
    Putting l.initial.out l.out 0 l.on (bytes_of (blocks_from l.i (l.count - l.i) (drop (125 * l.i) l.cells)))
    (bytes_of (blocks_from 0 l.count l.cells))

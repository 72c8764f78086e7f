use Rattle.std.proofs.Common.{◌-◌, ◌≤◌, ◌≡◌, length, drop}
use Rattle.octets.proofs.PutLaws.{Putting}
use Rattle.known.specs.Known.{columns_typed, list_from}
use Rattle.known.proofs.read_list.Given as goal

abbrev pub invariant-loop-byte : goal.invariant-loop-byte
invariant-loop-byte l =
    Putting l.initial.columns l.columns 0 l.n (columns_typed l.number (drop l.byte-index l.word)) (columns_typed 0 l.word)
    × (list_from l.number (drop l.byte-index l.word) ≡ list_from 0 l.word)

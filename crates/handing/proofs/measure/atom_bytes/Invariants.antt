use Prim.Native.Nat.{◌+◌, ◌*◌, ◌≤◌}
use mathlib.Core.Path.{◌≡◌}
use lib.ListN.{length, drop}
use Rattle.clauses.specs.code.Size.{cell_bytes, atom_bytes}
use Rattle.handing.specs.code.Lines.{blanks}
use Rattle.handing.proofs.measure.atom_bytes.Given as goal

abbrev pub invariant-loop-c : goal.invariant-loop-c
invariant-loop-c l =
    (l.sum ≤ 32 + 65537 * l.c-index) × (l.c-index ≤ length l.cells) × (l.sum + cell_bytes (blanks l.names) (drop l.c-index l.cells) ≡ atom_bytes (blanks l.names) l.k l.cells)

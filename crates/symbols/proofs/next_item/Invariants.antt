use Prim.Native.Nat.{◌-◌, ◌≤◌}
use lib.ListN.{length}
use Rattle.lex.specs.Turns.{Turns}
use Rattle.lex.specs.declared.turn.Turn.{Turn}
use Rattle.symbols.specs.Next.{spot, After, NextIs}
use Rattle.symbols.specs.declared.Ahead.{Ahead}
use Rattle.symbols.proofs.next_item.Given as goal

abbrev pub invariant-loop-s : goal.invariant-loop-s
invariant-loop-s l =
    (l.depth ≤ length l.text) × ((x : Turn) (r : Ahead) → Turns l.text l.at l.past x → After l.text l.depth x r → NextIs l.text (spot l.initial.at l.initial.past l.initial.depth) r)

abbrev pub decreases-loop-s : goal.decreases-loop-s
decreases-loop-s l = length l.text - l.at

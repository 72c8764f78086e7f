use Prim.Native.Nat.{◌≤◌}
use mathlib.Core.Path.{◌≡◌}
use lib.ListN.{drop}
use Rattle.grammar.specs.Reader.{Work, digits, limit, run}
use Rattle.lex.specs.Turns.{number_from}
use Rattle.lex.proofs.turn.number_from.Given as goal

-- the number from here on is the number from the start, and so the reader goes on
abbrev pub invariant-loop-i : goal.invariant-loop-i
invariant-loop-i l =
    (l.value ≤ limit l.minus)
    × ((w : Work) → run (drop l.i l.text) (digits l.minus l.value) w l.i ≡ run (drop l.at l.text) (digits l.minus l.first) w l.at)
    × (number_from l.minus l.value (drop l.i l.text) l.i ≡ number_from l.minus l.first (drop l.at l.text) l.at)

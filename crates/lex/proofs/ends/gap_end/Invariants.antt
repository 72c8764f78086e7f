use Prim.Native.Nat.{ℕ, ◌-◌, ◌≤◌}
use mathlib.Core.List.{List}
use lib.ListN.{length, drop}
use Rattle.grammar.specs.Grammar.{Gap}
use Rattle.lex.proofs.ends.gap_end.Given as goal

-- layout from here on is layout from the start
abbrev pub invariant-loop-i : goal.invariant-loop-i
invariant-loop-i l =
    (l.at ≤ l.i) × (l.at ≤ length l.text → l.i ≤ length l.text)
    × ((q : ℕ) (ys : List ℕ) → Gap l.i (drop l.i l.text) q ys → Gap l.at (drop l.at l.text) q ys)

abbrev pub decreases-loop-i : goal.decreases-loop-i
decreases-loop-i l = length l.text - l.i

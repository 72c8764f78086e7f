use Prim.Native.Nat.{ℕ}
use mathlib.Core.List.{List}
use lib.ListN.{drop}
use Rattle.grammar.specs.Grammar.{Line}
use Rattle.lex.proofs.ends.line_end.Given as goal

-- a line from here on is a line from the start
abbrev pub invariant-loop-i : goal.invariant-loop-i
invariant-loop-i l = (q : ℕ) (ys : List ℕ) → Line l.i (drop l.i l.text) q ys → Line l.at (drop l.at l.text) q ys

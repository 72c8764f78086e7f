use Prim.Native.Nat.{ℕ}
use mathlib.Core.List.{List}
use lib.ListN.{drop}
use Rattle.grammar.specs.Grammar.{Word}
use Rattle.lex.proofs.ends.word_end.Given as goal

-- a word from here on is a word from the start
abbrev pub invariant-loop-i : goal.invariant-loop-i
invariant-loop-i l = (q : ℕ) (ys : List ℕ) → Word l.i (drop l.i l.text) q ys → Word l.at (drop l.at l.text) q ys

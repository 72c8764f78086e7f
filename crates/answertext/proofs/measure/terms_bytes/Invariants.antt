use Prim.Native.Nat.{ℕ, ◌+◌, ◌*◌, ◌≤◌}
use mathlib.Core.Path.{◌≡◌}
use mathlib.Core.List.{List}
use lib.ListN.{length, drop}
use Rattle.termtext.specs.Saying.{words_of, terms_text}
use Rattle.answertext.specs.code.Levels.{levels}
use Rattle.answertext.proofs.measure.terms_bytes.Given as goal

-- the bytes of the cells from one on
abbrev pub rest : (text names goal new owed : List ℕ) (depth i : ℕ) (cells : List ℕ) → ℕ
rest text names goal new owed depth i cells = length (terms_text (words_of text names goal new) (levels owed depth) (drop i cells))

abbrev pub invariant-loop-c : goal.invariant-loop-c
invariant-loop-c l =
    (l.c-index ≤ length l.cells) × (l.depth ≤ l.c-index + 1) × (length l.owed ≡ 1025) × (length l.room ≡ 1025) × (l.sum ≤ 66560 * l.c-index)
    × (l.sum + rest l.text l.names l.goal l.new l.owed l.depth l.c-index l.cells ≡ rest l.text l.names l.goal l.new l.initial.owed 1 0 l.cells)

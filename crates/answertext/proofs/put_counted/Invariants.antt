use Prim.Native.Nat.{ℕ, ◌+◌, ◌≤◌}
use mathlib.Core.Path.{◌≡◌}
use mathlib.Core.List.{List}
use lib.ListN.{length, drop}
use Rattle.octets.proofs.PutLaws.{Putting}
use Rattle.termtext.specs.Saying.{words_of, terms_text}
use Rattle.answertext.specs.code.Levels.{levels}
use Rattle.answertext.proofs.put_counted.Given as goal

-- the text of the cells from one on
abbrev pub rest : (text names goal new owed : List ℕ) (depth i : ℕ) (cells : List ℕ) → List ℕ
rest text names goal new owed depth i cells = terms_text (words_of text names goal new) (levels owed depth) (drop i cells)

-- cell by cell, what is put so far and what is left are the whole
abbrev pub invariant-loop-c : goal.invariant-loop-c
invariant-loop-c l =
    let d = l.words in
    (l.c-index ≤ length l.cells) × (l.depth ≤ l.c-index + 1) × (length l.owed ≡ length l.initial.owed)
    × Putting l.initial.out l.out l.to l.on (rest d.text.now d.names.now d.goal.now d.new.now l.owed l.depth l.c-index l.cells)
    (rest d.text.now d.names.now d.goal.now d.new.now l.initial.owed 1 0 l.cells)

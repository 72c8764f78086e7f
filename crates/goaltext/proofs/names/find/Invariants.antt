use Rattle.std.proofs.Common.{◌≡◌, ◌+◌, drop}
use Rattle.termtext.specs.Saying.{words_in}
use Rattle.termtext.specs.code.Renumber.{word_number}
use Rattle.goaltext.proofs.names.find.Given as goal

-- the word stands so many places further on in what is left
abbrev pub invariant-loop-i : goal.invariant-loop-i
invariant-loop-i l = l.i + word_number l.word (words_in l.text (drop l.i l.names)) ≡ word_number l.word (words_in l.text l.names)

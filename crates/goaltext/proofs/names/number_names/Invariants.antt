use Prim.Native.Nat.{◌+◌, ◌≤◌}
use mathlib.Core.Path.{◌≡◌}
use lib.ListN.{length}
use lib.Seq.{sets}
use Rattle.termtext.specs.Saying.{words_in}
use Rattle.goaltext.proofs.NameLaws.{numbers_left, news_left}
use Rattle.goaltext.proofs.names.number_names.Given as goal

abbrev pub invariant-loop-i : goal.invariant-loop-i
invariant-loop-i l =
    (l.count ≤ l.i) × (length l.numbers ≡ length l.initial.numbers) × (length l.new ≡ length l.initial.new)
    × (sets l.numbers l.i (numbers_left (words_in l.text l.names) l.whole l.list l.count l.i)
    ≡ sets l.initial.numbers 0 (numbers_left (words_in l.text l.names) l.whole l.list 0 0))
    × (sets l.new l.count (news_left (words_in l.text l.names) l.whole l.list l.i) ≡ sets l.initial.new 0 (news_left (words_in l.text l.names) l.whole l.list 0))
    × (l.count + length (news_left (words_in l.text l.names) l.whole l.list l.i) ≡ length (news_left (words_in l.text l.names) l.whole l.list 0))

use Rattle.tallywords.specs.Tallies.{words_for}
use borrow.Author.Tests.{eq-eqb, ne_eqb}
use borrow.Author.Rules.{rules}
use Rattle.tallywords.proofs.put_words.Goals as goal

pub returns-then-n-eq1 : goal.returns-then-n-eq1
unfolding words_for
returns-then-n-eq1 c = rw (eq-eqb _ _ c.if-n-eq1.true) c.put_word.ensures

pub returns : goal.returns
unfolding words_for
returns c = rw (ne_eqb _ _ c.if-n-eq1.false) c.put_word-2.ensures

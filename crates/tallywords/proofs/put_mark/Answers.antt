use Rattle.message.specs.Words.{ascii}
use Rattle.tallywords.specs.Tallies.{mark_text}
use borrow.Author.Tests.{eq-eqb, ne_eqb}
use borrow.Author.Rules.{rules}
use Rattle.tallywords.proofs.put_mark.Goals as goal

pub returns-then-n-eq0 : goal.returns-then-n-eq0
unfolding ascii mark_text
returns-then-n-eq0 c = rw (eq-eqb _ _ c.if-n-eq0.true) c.put_word.ensures

pub returns : goal.returns
unfolding mark_text
returns c = rw (ne_eqb _ _ c.if-n-eq0.false) c.put_more.ensures

use Rattle.message.specs.Words.{ascii}
use Rattle.octets.proofs.PutLaws.{put-nothing}
use Rattle.tallywords.specs.Tallies.{more_text}
use borrow.Author.Tests.{eq-eqb, ne_eqb}
use borrow.Author.Rules.{rules}
use Rattle.tallywords.proofs.put_more.Goals as goal

pub returns-then-n-eq18446744073709551615 : goal.returns-then-n-eq18446744073709551615
unfolding ascii more_text
returns-then-n-eq18446744073709551615 c = rw (eq-eqb _ _ c.if-n-eq18446744073709551615.true) c.put_word.ensures

pub returns : goal.returns
unfolding more_text
returns c = rw (ne_eqb _ _ c.if-n-eq18446744073709551615.false) put-nothing

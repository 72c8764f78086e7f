use Rattle.octets.proofs.PutLaws.{put-put}
use Rattle.known.specs.Known.{next_text}
use borrow.Author.Tests.{eq-eqb, ne_eqb}
use borrow.Author.Rules.{rules}
use Rattle.known.proofs.put_next.Goals as goal

pub returns-then-before-eq0 : goal.returns-then-before-eq0
unfolding next_text
returns-then-before-eq0 c = rw (eq-eqb _ _ c.if-before-eq0.true) c.put_decimal.ensures

pub returns : goal.returns
unfolding next_text
returns c =
    rw (ne_eqb _ _ c.if-before-eq0.false) (put-put c.put_byte-on.ensures c.put_decimal-2.ensures)

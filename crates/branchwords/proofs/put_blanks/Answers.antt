use borrow.Author.Tests.{eq-eqb, ne_eqb}
use Rattle.message.specs.Words.{ascii}
use Rattle.octets.proofs.PutLaws.{put-put, put-nothing}
use Rattle.branchwords.specs.Branches.{blanks_text}
use borrow.Author.Rules.{rules}
use Rattle.branchwords.proofs.put_blanks.Goals as goal

pub returns-then-count-eq0 : goal.returns-then-count-eq0
unfolding blanks_text
returns-then-count-eq0 c = rw (eq-eqb _ _ c.if-count-eq0.true) put-nothing

pub returns : goal.returns
unfolding ascii blanks_text
returns c =
    rw (ne_eqb _ _ c.if-count-eq0.false)
    (put-put c.put_word-a.ensures (put-put c.put_times-b.ensures c.put_byte.ensures))

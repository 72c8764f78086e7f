use borrow.Author.Tests.{eq-eqb, ne_eqb}
use Rattle.message.specs.Words.{ascii}
use Rattle.octets.proofs.PutLaws.{put-put, put-nothing}
use Rattle.branchwords.specs.Branches.{owner_text}
use borrow.Author.Rules.{rules}
use Rattle.branchwords.proofs.put_owner.Goals as goal

pub returns-then-owner-eq0 : goal.returns-then-owner-eq0
unfolding owner_text
returns-then-owner-eq0 c = rw (eq-eqb _ _ c.if-owner-eq0.true) put-nothing

pub returns : goal.returns
unfolding ascii owner_text
returns c =
    rw (ne_eqb _ _ c.if-owner-eq0.false) (put-put c.put_word-on.ensures c.put_listed.ensures)

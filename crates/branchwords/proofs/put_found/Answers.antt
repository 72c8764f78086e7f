use borrow.Author.Tests.{eq-eqb, ne_eqb}
use Rattle.message.specs.Words.{ascii}
use Rattle.octets.proofs.PutLaws.{put-put}
use Rattle.branchwords.specs.Branches.{found_text}
use borrow.Author.Rules.{rules}
use Rattle.branchwords.proofs.put_found.Goals as goal

pub returns-then-first-eq0 : goal.returns-then-first-eq0
unfolding found_text
returns-then-first-eq0 c = rw (eq-eqb _ _ c.if-first-eq0.true) c.put_symbol.ensures

pub returns : goal.returns
unfolding ascii found_text
returns c =
    rw (ne_eqb _ _ c.if-first-eq0.false) (put-put c.put_word-on.ensures c.put_place.ensures)

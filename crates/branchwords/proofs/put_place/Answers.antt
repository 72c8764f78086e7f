use Rattle.message.specs.Words.{ascii}
use Rattle.octets.proofs.PutLaws.{put-put}
use Rattle.branchwords.specs.Branches.{place_text}
use borrow.Author.Rules.{rules}
use Rattle.branchwords.proofs.put_place.Goals as goal

pub returns : goal.returns
unfolding ascii place_text
returns c =
    put-put c.put_word-a.ensures (put-put c.put_decimal-b.ensures c.put_owner.ensures)

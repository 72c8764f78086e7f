use Rattle.message.specs.Words.{ascii}
use Rattle.octets.proofs.PutLaws.{put-put}
use Rattle.branchwords.specs.Branches.{sizes_text}
use borrow.Author.Rules.{rules}
use Rattle.branchwords.proofs.put_sizes.Goals as goal

pub returns : goal.returns
unfolding ascii sizes_text
returns c =
    put-put c.put_word-a.ensures (put-put c.put_number_of-b.ensures c.put_number_of.ensures)

use Rattle.octets.proofs.PutLaws.{put-put}
use Rattle.tallywords.specs.Tallies.{total_line}
use borrow.Author.Rules.{rules}
use Rattle.tallywords.proofs.put_total.Goals as goal

pub returns : goal.returns
unfolding total_line
returns c =
    put-put c.put_number-a.ensures (put-put c.put_words-b.ensures (put-put c.put_more-c.ensures c.put_byte.ensures))

use Rattle.message.specs.Words.{ascii}
use Rattle.octets.proofs.PutLaws.{put-put}
use Rattle.cardwords.specs.Cards.{held_line}
use Rattle.cardwords.proofs.put_held.Goals as goal

pub returns : goal.returns
unfolding ascii held_line
returns c = put-put c.put_word-a.ensures (put-put c.put_number_of-b.ensures (put-put c.put_number_of-c.ensures (put-put c.put_number_of-d.ensures c.put_number_of.ensures)))

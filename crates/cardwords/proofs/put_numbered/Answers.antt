use Rattle.message.specs.Words.{ascii}
use Rattle.octets.proofs.PutLaws.{put-put}
use Rattle.cardwords.specs.Cards.{numbered_place}
use Rattle.cardwords.proofs.put_numbered.Goals as goal

pub returns : goal.returns
unfolding ascii numbered_place
returns c = put-put c.put_word-a.ensures (put-put c.put_decimal-b.ensures c.put_word.ensures)

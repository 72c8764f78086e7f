use Rattle.message.specs.Words.{ascii}
use Rattle.octets.proofs.PutLaws.{put-put}
use Rattle.cardwords.specs.Cards.{refused_line}
use Rattle.cardwords.proofs.put_refused.Goals as goal

pub returns : goal.returns
unfolding ascii refused_line
returns c = put-put c.put_word-a.ensures (put-put c.put_place-b.ensures (put-put c.put_reason-c.ensures c.put_byte.ensures))

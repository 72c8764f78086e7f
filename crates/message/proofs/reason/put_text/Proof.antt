use Rattle.message.specs.Words.{ascii}
use Rattle.octets.proofs.PutLaws.{put-put}
use borrow.Author.Rules.{rules}
use Rattle.message.proofs.reason.put_text.Statement.{statement}
use Rattle.message.proofs.reason.put_text.Tie as tie

put-word-requires : tie.Need-put_word-on-requires
put-word-requires c κs = search rules

put-word-requires-2 : tie.Need-put_word-requires
put-word-requires-2 c κs = search rules

same_length : tie.Need-shape_of-out
same_length c = search rules

returns : tie.Need-returns
unfolding ascii
returns c =
    put-put c.put_word-on.ensures c.put_word.ensures

pub put_text_spec : {M : Type 1} → statement M
put_text_spec =
    tie.close
    (tie.spec put-word-requires put-word-requires-2 same_length returns)

use Rattle.message.specs.Words.{ascii}
use Rattle.octets.proofs.PutLaws.{put-put}
use borrow.Author.Rules.{rules}
use Rattle.message.proofs.reason.put_number.Statement.{statement}
use Rattle.message.proofs.reason.put_number.Tie as tie

put-word-requires : tie.Need-put_word-on-requires
put-word-requires c κs = search rules

put-decimal-requires : tie.Need-put_decimal-requires
put-decimal-requires c κs = search rules

same_length : tie.Need-shape_of-out
same_length c = search rules

returns : tie.Need-returns
unfolding ascii
returns c =
    put-put c.put_word-on.ensures c.put_decimal.ensures

pub put_number_spec : {M : Type 1} → statement M
put_number_spec =
    tie.close
    (tie.spec put-word-requires put-decimal-requires same_length returns)

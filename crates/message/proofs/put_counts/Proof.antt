use Rattle.message.specs.Message.{counts_line}
use Rattle.message.specs.Words.{ascii}
use Rattle.octets.proofs.PutLaws.{put-put}
use borrow.Author.Rules.{rules}
use Rattle.message.proofs.put_counts.Statement.{statement}
use Rattle.message.proofs.put_counts.Tie as tie

put-number-of-requires : tie.Need-put_number_of-a-requires
put-number-of-requires c κs = search rules

put-decimal-requires : tie.Need-put_decimal-b-requires
put-decimal-requires c κs = search rules

put-word-requires : tie.Need-put_word-c-requires
put-word-requires c κs = search rules

put-number-of-requires-2 : tie.Need-put_number_of-requires
put-number-of-requires-2 c κs = search rules

same_length : tie.Need-shape_of-out
same_length c = search rules

returns : tie.Need-returns
unfolding ascii counts_line
returns c =
    put-put c.put_number_of-a.ensures (put-put c.put_decimal-b.ensures (put-put c.put_word-c.ensures c.put_number_of.ensures))

pub put_counts_spec : {M : Type 1} → statement M
put_counts_spec =
    tie.close
    (tie.spec
    put-number-of-requires
    put-decimal-requires
    put-word-requires
    put-number-of-requires-2
    same_length
    returns)

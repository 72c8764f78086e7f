use Rattle.message.specs.Message.{rule_text}
use Rattle.message.specs.Words.{ascii}
use Rattle.octets.proofs.PutLaws.{put-put}
use borrow.Author.Rules.{rules}
use Rattle.message.proofs.put_rule.Statement.{statement}
use Rattle.message.proofs.put_rule.Tie as tie

put-word-requires : tie.Need-put_word-a-requires
put-word-requires c κs = search rules

put-decimal-requires : tie.Need-put_decimal-b-requires
put-decimal-requires c κs = search rules

put-word-requires-2 : tie.Need-put_word-c-requires
put-word-requires-2 c κs = search rules

put-decimal-requires-2 : tie.Need-put_decimal-requires
put-decimal-requires-2 c κs = search rules

same_length : tie.Need-shape_of-out
same_length c = search rules

returns : tie.Need-returns
unfolding ascii rule_text
returns c =
    put-put c.put_word-a.ensures (put-put c.put_decimal-b.ensures (put-put c.put_word-c.ensures c.put_decimal.ensures))

pub put_rule_spec : {M : Type 1} → statement M
put_rule_spec =
    tie.close
    (tie.spec
    put-word-requires
    put-decimal-requires
    put-word-requires-2
    put-decimal-requires-2
    same_length
    returns)

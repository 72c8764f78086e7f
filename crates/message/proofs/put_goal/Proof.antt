use Rattle.message.specs.Words.{ascii}
use Rattle.message.specs.Message.{goal_line}
use Rattle.octets.proofs.PutLaws.{put-put}
use borrow.Author.Rules.{rules}
use Rattle.message.proofs.put_goal.Statement.{statement}
use Rattle.message.proofs.put_goal.Tie as tie

put-word-requires : tie.Need-put_word-a-requires
put-word-requires c κs = search rules

put-in-line-requires : tie.Need-put_in_line-b-requires
put-in-line-requires c κs = search rules

put-byte-requires : tie.Need-put_byte-requires
put-byte-requires c κs = search rules

same_length : tie.Need-shape_of-out
same_length c = search rules

returns : tie.Need-returns
unfolding ascii goal_line
returns c =
    put-put c.put_word-a.ensures (put-put c.put_in_line-b.ensures c.put_byte.ensures)

pub put_goal_spec : {M : Type 1} → statement M
put_goal_spec =
    tie.close
    (tie.spec
    put-word-requires
    put-in-line-requires
    put-byte-requires
    same_length
    returns)

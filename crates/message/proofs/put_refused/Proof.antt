use Rattle.message.specs.Message.{refusal_line}
use Rattle.message.specs.Words.{ascii}
use Rattle.octets.proofs.PutLaws.{put-put}
use borrow.Author.Rules.{rules}
use Rattle.message.proofs.put_refused.Statement.{statement}
use Rattle.message.proofs.put_refused.Tie as tie

put-byte-requires : tie.Need-put_byte-a-requires
put-byte-requires c κs = search rules

put-decimal-requires : tie.Need-put_decimal-b-requires
put-decimal-requires c κs = search rules

put-byte-requires-2 : tie.Need-put_byte-c-requires
put-byte-requires-2 c κs = search rules

put-decimal-requires-2 : tie.Need-put_decimal-d-requires
put-decimal-requires-2 c κs = search rules

put-word-requires : tie.Need-put_word-e-requires
put-word-requires c κs = search rules

put-reason-requires : tie.Need-put_reason-f-requires
put-reason-requires c κs = search rules

put-byte-requires-3 : tie.Need-put_byte-requires
put-byte-requires-3 c κs = search rules

same_length : tie.Need-shape_of-out
same_length c = search rules

returns : tie.Need-returns
unfolding ascii refusal_line
returns c =
    put-put c.put_byte-a.ensures (put-put c.put_decimal-b.ensures
    (put-put c.put_byte-c.ensures (put-put c.put_decimal-d.ensures
    (put-put c.put_word-e.ensures (put-put c.put_reason-f.ensures c.put_byte.ensures)))))

pub put_refused_spec : {M : Type 1} → statement M
put_refused_spec =
    tie.close
    (tie.spec
    put-byte-requires
    put-decimal-requires
    put-byte-requires-2
    put-decimal-requires-2
    put-word-requires
    put-reason-requires
    put-byte-requires-3
    same_length
    returns)

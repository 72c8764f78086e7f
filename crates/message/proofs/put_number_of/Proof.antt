use Rattle.octets.proofs.PutLaws.{put-put}
use Rattle.message.specs.Message.{numbered_by}
use borrow.Author.Tests.{eq-eqb, ne_eqb}
use borrow.Author.Rules.{rules}
use Rattle.message.proofs.put_number_of.Statement.{statement}
use Rattle.message.proofs.put_number_of.Tie as tie

put-decimal-requires : tie.Need-put_decimal-on-requires
put-decimal-requires c κs = search rules

put-word-requires : tie.Need-put_word-requires
put-word-requires c κs = search rules

same_length : tie.Need-shape_of-out-then-n-eq1
same_length c = search rules

returns : tie.Need-returns-then-n-eq1
unfolding numbered_by
returns c =
    rw (eq-eqb _ _ c.if-n-eq1.true)
    (put-put c.put_decimal-on.ensures c.put_word.ensures)

put-word-requires-2 : tie.Need-put_word-requires-2
put-word-requires-2 c κs = search rules

same-length-2 : tie.Need-shape_of-out
same-length-2 c = search rules

returns-2 : tie.Need-returns
unfolding numbered_by
returns-2 c =
    rw (ne_eqb _ _ c.if-n-eq1.false)
    (put-put c.put_decimal-on.ensures c.put_word-2.ensures)

pub put_number_of_spec : {M : Type 1} → statement M
put_number_of_spec =
    tie.close
    (tie.spec
    put-decimal-requires
    put-word-requires
    same_length
    returns
    put-word-requires-2
    same-length-2
    returns-2)

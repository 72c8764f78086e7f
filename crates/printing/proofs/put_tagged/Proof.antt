use Rattle.octets.proofs.PutLaws.{put-put}
use borrow.Author.Rules.{rules}
use Rattle.printing.proofs.put_tagged.Statement.{statement}
use Rattle.printing.proofs.put_tagged.Tie as tie

put-byte-requires : tie.Need-put_byte-on-requires
put-byte-requires c κs = search rules

put-decimal-requires : tie.Need-put_decimal-requires
put-decimal-requires c κs = search rules

same_length : tie.Need-shape_of-out
same_length c = search rules

returns : tie.Need-returns
returns c = put-put c.put_byte-on.ensures c.put_decimal.ensures

pub put_tagged_spec : {M : Type 1} → statement M
put_tagged_spec = tie.close (tie.spec put-byte-requires put-decimal-requires same_length returns)

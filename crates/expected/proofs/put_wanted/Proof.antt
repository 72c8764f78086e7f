use Rattle.octets.proofs.PutLaws.{put-put}
use borrow.Author.Rules.{rules}
use Rattle.expected.proofs.put_wanted.Statement.{statement}
use Rattle.expected.proofs.put_wanted.Tie as tie

put-found-requires : tie.Need-put_found-on-requires
put-found-requires c κs = search rules

put-what-requires : tie.Need-put_what-requires
put-what-requires c κs = search rules

same_length : tie.Need-shape_of-out
same_length c = search rules

returns : tie.Need-returns
returns c = put-put c.put_found-on.ensures c.put_what.ensures

pub put_wanted_spec : {M : Type 1} → statement M
put_wanted_spec = tie.close (tie.spec put-found-requires put-what-requires same_length returns)

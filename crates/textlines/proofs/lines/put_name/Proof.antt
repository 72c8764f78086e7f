use Rattle.octets.proofs.PutLaws.{put-put}
use Rattle.textlines.specs.Lines.{name_line}
use borrow.Author.Rules.{rules}
use Rattle.textlines.proofs.lines.put_name.Statement.{statement}
use Rattle.textlines.proofs.lines.put_name.Tie as tie

cast-put-field : tie.Need-overflow_cast-name
cast-put-field c = search rules

put-field-requires : tie.Need-put_field-on-requires
put-field-requires c κs = search rules

cast-put-field-2 : tie.Need-overflow_cast-name-2
cast-put-field-2 c = search rules

put-field-requires-2 : tie.Need-put_field-requires
put-field-requires-2 c κs = search rules

same_length : tie.Need-shape_of-out
same_length c = search rules

returns : tie.Need-returns
unfolding name_line
returns c = put-put c.put_field-on.ensures c.put_field.ensures

pub put_name_spec : {M : Type 1} → statement M
put_name_spec =
    tie.close
    (tie.spec
    cast-put-field
    put-field-requires
    cast-put-field-2
    put-field-requires-2
    same_length
    returns)

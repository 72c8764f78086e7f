use Rattle.octets.proofs.PutLaws.{put-put}
use Rattle.textlines.specs.Lines.{heading}
use borrow.Author.Rules.{rules}
use Rattle.textlines.proofs.lines.put_heading.Statement.{statement}
use Rattle.textlines.proofs.lines.put_heading.Tie as tie

put-word-requires : tie.Need-put_word-p-requires
put-word-requires c κs = search rules

put-decimal-requires : tie.Need-put_decimal-q-requires
put-decimal-requires c κs = search rules

put-word-requires-2 : tie.Need-put_word-r-requires
put-word-requires-2 c κs = search rules

put-field-requires : tie.Need-put_field-requires
put-field-requires c κs = search rules

same_length : tie.Need-shape_of-out
same_length c = search rules

returns : tie.Need-returns
unfolding heading
returns c =
    let c4 = c.before.before in
    let c3 = c4.before.before.before.before in
    let c2 = c3.before.before.before.before.before in
    let c1 = c2.before.before.before.before in
    put-put c1.put_word-p.ensures (put-put c2.put_decimal-q.ensures (put-put c3.put_word-r.ensures c4.put_field.ensures))

pub put_heading_spec : {M : Type 1} → statement M
put_heading_spec =
    tie.close
    (tie.spec
    put-word-requires
    put-decimal-requires
    put-word-requires-2
    put-field-requires
    same_length
    returns)

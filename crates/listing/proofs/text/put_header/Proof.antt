use Rattle.octets.proofs.PutLaws.{put-put}
use Rattle.listing.specs.Listing.{header}
use borrow.Author.Rules.{rules}
use Rattle.listing.proofs.text.put_header.Statement.{statement}
use Rattle.listing.proofs.text.put_header.Tie as tie

put-word-requires : tie.Need-put_word-p-requires
put-word-requires c κs = search rules

put-decimal-requires : tie.Need-put_decimal-q-requires
put-decimal-requires c κs = search rules

put-word-requires-2 : tie.Need-put_word-r-requires
put-word-requires-2 c κs = search rules

put-decimal-requires-2 : tie.Need-put_decimal-s-requires
put-decimal-requires-2 c κs = search rules

put-word-requires-3 : tie.Need-put_word-t-requires
put-word-requires-3 c κs = search rules

put-field-requires : tie.Need-put_field-requires
put-field-requires c κs = search rules

same_length : tie.Need-shape_of-out
same_length c = search rules

returns : tie.Need-returns
unfolding header
returns c =
    let c6 = c.before.before in
    let c5 = c6.before.before.before.before in
    let c4 = c5.before.before.before.before.before in
    let c3 = c4.before.before.before.before in
    let c2 = c3.before.before.before.before.before in
    let c1 = c2.before.before.before.before in
    put-put c1.put_word-p.ensures
    (put-put c2.put_decimal-q.ensures
    (put-put c3.put_word-r.ensures
    (put-put c4.put_decimal-s.ensures
    (put-put c5.put_word-t.ensures c6.put_field.ensures))))

pub put_header_spec : {M : Type 1} → statement M
put_header_spec =
    tie.close
    (tie.spec
    put-word-requires
    put-decimal-requires
    put-word-requires-2
    put-decimal-requires-2
    put-word-requires-3
    put-field-requires
    same_length
    returns)

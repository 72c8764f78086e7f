use Rattle.octets.proofs.PutLaws.{put-put}
use Rattle.listing.specs.Listing.{line}
use Rattle.listing.proofs.text.put_line.Goals as goal

pub returns : goal.returns
unfolding line
returns c =
    put-put c.put_field-p.ensures
    (put-put c.put_field-q.ensures
    (put-put c.put_symbol-r.ensures (put-put c.put_byte-s.ensures (put-put c.put_field-t.ensures c.put_field.ensures))))

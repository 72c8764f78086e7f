use Rattle.octets.proofs.PutLaws.{put-put}
use Rattle.octets.proofs.cells.write_cell.Goals as goal

-- one byte after another, and what the four of them are
pub returns : goal.returns
returns c =
    rw c.to_le_bytes.ensures at (put-put (put-put (put-put c.put_byte-a.ensures c.put_byte-b.ensures) c.put_byte-d.ensures) c.put_byte.ensures)

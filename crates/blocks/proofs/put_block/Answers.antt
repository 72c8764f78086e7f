use Rattle.octets.proofs.PutLaws.{put-put}
use Rattle.blocks.proofs.PutLaws.{block-bytes}
use Rattle.blocks.proofs.put_block.Goals as goal

pub returns : goal.returns
returns c =
    let a = c.args in
    let front = put-put c.write_cell-a.ensures c.write_cells-b.ensures in
    rw (block-bytes a.number a.cells.now, ← c.sums-s.ensures.0, ← c.sums-s.ensures.1)
    (put-put (put-put front c.write_cell-d.ensures) c.write_cell.ensures)

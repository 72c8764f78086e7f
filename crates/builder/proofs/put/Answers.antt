use Rattle.std.proofs.Common.{◌≡◌, ◌++◌, length, take, drop, ap, ◌∙◌, arith}
use lib.Seq.{length-take-le}
use Rattle.octets.proofs.PutLaws.{put_front}
use Rattle.builder.specs.code.Writing.{fitted}
use Rattle.builder.proofs.put.Goals as goal

pub returns : goal.returns
returns c =
    let a = c.args in
    let n = a.plan.cells in
    let cells = take n a.from.now in
    let e : length cells ≡ n = length-take-le n a.from.now c.requires.1 in
    let f = put_front c.put_cells.ensures (omega (arith, e)) in
    fitted (omega arith) (f.1 ∙ ap (λ k. cells ++ drop k a.room.now) e)

use mathlib.Core.Path.{sym}
use native.Mathlib.Omega.{arith}
use Rattle.dudowiej.proofs.Small.{row_small}
use Rattle.dudowiej.proofs.dudowiej_row.Goals as goal

pub returns : goal.returns
returns c =
    let s = row_small c.table_of-cells.result.now c.args.r in
    let p = c.row_place-part.ensures in
    rw (sym c.table_of-cells.ensures) (omega (arith, p.start, p.end, s, c.values_as_number.ensures (omega (arith, p.start, p.end, s), omega (arith, p.start, p.end, s))))

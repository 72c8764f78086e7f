use Prim.Native.Nat.{ℕ, ◌<◌}
use mathlib.Core.Path.{◌≡◌, subst, ◌∙◌}
use mathlib.Core.Logic.{by_cases}
use native.Mathlib.Omega.{arith}
use native.Mathlib.Decide.{dec_le}
use lib.ListN.{length}
use Rattle.octets.specs.Octets.{Put, cells_of}
use Rattle.octets.proofs.PutLaws.{put-nothing, put_next, put_one, put_all, put_full}
use Rattle.octets.proofs.CellsLaws.{cells_count, cell-here}
use Rattle.octets.proofs.read_cells.Goals as goal

pub loop-i-init : goal.loop-i-init
loop-i-init c = put-nothing

pub loop-i-preserved : goal.loop-i-preserved
loop-i-preserved c =
    let l = c.loop-i in
    let bytes = c.args.bytes.now in
    let some : l.i < length (cells_of bytes) = omega (arith, cells_count bytes) in
    let here = put_one l.cells l.i c.cell_of.result (omega arith) in
    put_next (cells_of bytes) l.i some (c.cell_of.ensures ∙ cell-here bytes l.i some) l.invariant here

pub returns : goal.returns
returns c =
    let l = c.loop-i in
    let bytes = c.args.bytes.now in
    let e : l.i ≡ c.min-n.result = omega arith in
    subst (λ (n : ℕ). Put c.args.cells.now l.cells 0 (cells_of bytes) n) e
    (by_cases (dec_le (length (cells_of bytes)) l.i) (λ h. put_all (cells_of bytes) l.i h l.invariant)
    (λ h. put_full (cells_of bytes) l.i (omega (arith, h, cells_count bytes)) l.invariant))

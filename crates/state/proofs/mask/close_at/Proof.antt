use native.Mathlib.Omega.{arith}
use mathlib.Core.Path.{sym, ◌∙◌}
use Prim.Native.Nat.{◌+◌, ◌<◌}
use lib.ListN.{length, drop, length-drop}
use lib.Seq.{get_or-drop}
use borrow.Author.Tests.{lt-ltb, le-ltb}
use Rattle.state.proofs.MaskLaws.{Open, found, not_found, closed_at, bit_shifted}
use borrow.Author.Rules.{rules}
use Rattle.state.proofs.mask.close_at.Statement.{statement}
use Rattle.state.proofs.mask.close_at.Tie as tie

-- where the bit is below 32, the cell is there
there : (c : tie.Then-bit-lt32) → Open c.args.i c.args.mask
    (drop c.args.start c.args.cells.now) c.root_at-bit.result
there c =
    let a = c.args in
    found a.i a.mask (drop a.start a.cells.now) c.root_at-bit.result c.root_at-bit.ensures (omega arith)

inside : (c : tie.Then-bit-lt32) → c.args.start + c.root_at-bit.result < length c.args.cells.now
inside c =
    let a = c.args in
    omega (arith, (there c).below, length-drop a.start a.cells.now)

root-at-requires : tie.Need-root_at-bit-requires
root-at-requires c κs = search rules

add_at : tie.Need-overflow_add-at
add_at c = record { fits = omega (arith, inside c) }

mul-t8 : tie.Need-offset_bounds-cells-at
mul-t8 c = record { fits = omega (arith, inside c) }

shared-slice-read-t10 : tie.Need-bounds-cells-at
shared-slice-read-t10 c = inside c.before

cast-t11 : tie.Need-overflow_cast-result
cast-t11 c = search rules

shl-t12 : tie.Need-overflow_shl-result
shl-t12 c = search rules

sub-t13 : tie.Need-overflow_sub-result
sub-t13 c = omega (arith, (there c.before).bit, bit_shifted c.root_at-bit.result (omega arith))

returns : tie.Need-returns-then-bit-lt32
returns c =
    let a = c.args in
    let b = c.root_at-bit in
    closed_at a.i a.mask (drop a.start a.cells.now) (omega arith) _
    (sym ((there c.before).cell ∙ get_or-drop a.start a.cells.now b.result 0))
    (rw (bit_shifted b.result (omega arith), ← b.ensures, lt-ltb b.result 32 (omega arith)))

returns-2 : tie.Need-returns
returns-2 c =
    let a = c.args in
    let b = c.root_at-bit in
    let xs = drop a.start a.cells.now in
    closed_at a.i a.mask xs (omega arith) _
    (sym (not_found a.i a.mask xs b.result b.ensures (omega arith) (omega arith)))
    (rw (← b.ensures, le-ltb b.result 32 (omega arith)))

pub close_at_spec : {M : Type 1} → statement M
close_at_spec =
    tie.close
    (tie.spec
    root-at-requires
    add_at
    mul-t8
    shared-slice-read-t10
    cast-t11
    shl-t12
    sub-t13
    returns
    returns-2)

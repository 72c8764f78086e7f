use mathlib.Core.Path.{sym, ◌∙◌, ◌≡◌}
use native.Mathlib.Nat.{div-le_self}
use lib.Count.{count_trailing_zeros}
use Rattle.cell.proofs.CellLaws.{arity-small}
use Rattle.state.proofs.MaskLaws.{bit-none, bit-end, bit-out, bit-here, bit-more, zeros-small}
use borrow.Author.Rules.{rules}
use native.Mathlib.Omega.{arith}
use Prim.Native.Nat.{◌+◌, ◌*◌, ◌≤◌, ◌<◌, ◌^◌}
use lib.ListN.{length, drop, get_or}
use Rattle.state.specs.Mask.{bit_from, bit_at}
use Rattle.state.proofs.mask.root_at.Statement.{statement}
use Rattle.state.proofs.mask.root_at.Tie as tie

abbrev invariant-loop : tie.invariant-loop-left
invariant-loop cells start mask i left₀ bit₀ owed₀ left bit owed =
    (start + bit ≤ length cells) × (left < 2 ^ 32) × (owed < 2 ^ 32 + 4 * bit)
    × (bit_from bit owed left (drop (start + bit) cells) ≡ bit_at i mask (drop start cells))

abbrev decreases-loop : tie.decreases-loop-left
decreases-loop cells start mask i left₀ bit₀ owed₀ left bit owed = left

returns : tie.Need-returns-then-cells-start invariant-loop decreases-loop
returns c = let a = c.args in sym (bit-end a.i a.mask a.cells.now a.start (omega arith))

loop-holds : tie.Need-loop-left-init invariant-loop decreases-loop
loop-holds c = let a = c.args in let e : a.start + 0 ≡ a.start = omega arith in (omega arith, omega arith, omega arith, rw e)

cast-bit : tie.Need-overflow_cast-bit invariant-loop decreases-loop
cast-bit c = record { fits = omega (arith, zeros-small 32 c.loop-left.left (omega arith) (omega arith)) }

add-bit : tie.Need-overflow_add-bit invariant-loop decreases-loop
add-bit c = record { fits = omega (arith, zeros-small 32 c.loop-left.left (omega arith) (omega arith)) }

add_at : tie.Need-overflow_add-at invariant-loop decreases-loop
add_at c = record { fits = omega (arith, zeros-small 32 c.loop-left.left (omega arith) (omega arith)) }

returns-2 : tie.Need-returns-then-cells-at invariant-loop decreases-loop
returns-2 c =
    let a = c.args in
    let l = c.loop-left in
    sym (bit-out a.cells.now a.start l.bit l.owed l.left (omega arith) (omega arith) (omega arith)) ∙ l.invariant.3

returns-3 : tie.Need-returns-then-owed-eq0 invariant-loop decreases-loop
returns-3 c =
    let a = c.args in
    let l = c.loop-left in
    sym (bit-here a.cells.now a.start l.bit l.owed l.left (omega arith) (omega arith) (omega arith) (omega arith)) ∙ l.invariant.3

sub-owed : tie.Need-overflow_sub-owed invariant-loop decreases-loop
sub-owed c = search rules

mul-arity-of : tie.Need-offset_bounds-cells-at invariant-loop decreases-loop
mul-arity-of c = search rules

shared-slice-read-arity-of : tie.Need-bounds-cells-at invariant-loop decreases-loop
shared-slice-read-arity-of c = search rules

arity-of-requires : tie.Need-arity_of-requires invariant-loop decreases-loop
arity-of-requires c κs = search rules

add-owed : tie.Need-overflow_add-owed invariant-loop decreases-loop
add-owed c =
    let a = c.args in
    let l = c.loop-left in
    record { fits = omega (arith, arity-small (get_or a.cells.now (a.start + (l.bit + count_trailing_zeros 32 l.left)) 0)) }

shr-left : tie.Need-overflow_shr-left invariant-loop decreases-loop
shr-left c = let l = c.loop-left in zeros-small 32 l.left (omega arith) (omega arith)

add-bit-2 : tie.Need-overflow_add-bit-in-loop-left invariant-loop decreases-loop
add-bit-2 c = search rules

loop-less : tie.Need-loop-left-smaller invariant-loop decreases-loop
loop-less c = let l = c.loop-left in omega (arith, div-le_self l.left (2 ^ count_trailing_zeros 32 l.left))

loop-again : tie.Need-loop-left-preserved invariant-loop decreases-loop
loop-again c =
    let a = c.args in
    let l = c.loop-left in
    let at = a.start + (l.bit + count_trailing_zeros 32 l.left) in (
      omega arith,
      omega (arith, div-le_self l.left (2 ^ count_trailing_zeros 32 l.left)),
      omega (arith, arity-small (get_or a.cells.now at 0)),
      rw c.arity_of.ensures (sym (bit-more a.cells.now a.start l.bit l.owed l.left (omega arith) (omega arith) (omega arith)
          (omega arith)) ∙ l.invariant.3),
    )

returns-4 : tie.Need-returns invariant-loop decreases-loop
returns-4 c =
    let a = c.args in
    let l = c.loop-left in
    let e : l.left ≡ 0 = omega arith in
    sym (bit-none l.bit l.owed (drop (a.start + l.bit) a.cells.now)) ∙ rw e at l.invariant.3

pub root_at_spec : {M : Type 1} → statement M
root_at_spec =
    tie.close
    (tie.spec
    invariant-loop
    decreases-loop
    returns
    loop-holds
    cast-bit
    add-bit
    add_at
    returns-2
    returns-3
    sub-owed
    mul-arity-of
    shared-slice-read-arity-of
    arity-of-requires
    add-owed
    shr-left
    add-bit-2
    loop-less
    loop-again
    returns-4)

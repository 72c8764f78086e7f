use mathlib.Core.Path.{◌≡◌, ap, ◌∙◌}
use mathlib.Core.List.{◌∷◌}
use Prim.Native.Nat.{◌+◌, ◌-◌, ◌*◌, ◌%◌, ◌^◌, ◌≤◌, ◌<◌}
use native.Mathlib.Omega.{arith}
use borrow.Author.Rules.{rules}
use lib.Count.{count_trailing_zeros}
use lib.ListN.{length, get_or, drop}
use lib.Pow.{pow_pos}
use Rattle.state.proofs.MaskLaws.{zeros-small, bit_shifted}
use Rattle.builder.specs.code.Writing.{open_in}
use Rattle.builder.proofs.OpenLaws.{open_none, open-outside, open-first, lowest_set, kept-none}
use Rattle.builder.proofs.AloneLaws.{Chained, chained-start, chained-room, chained-end, chained_more, chained-next}
use Rattle.builder.proofs.writer.alone.Statement.{statement}
use Rattle.builder.proofs.writer.alone.Tie as tie
use Rattle.limits.specs.Limits.{most_plan_cells}

abbrev invariant-loop : tie.invariant-loop-left
invariant-loop table start mask out₀ at left₀ next₀ out left next =
    (start < length table) × (left < 2 ^ 32) × Chained (open_in table start mask) out₀ at (open_in table start left) out next

abbrev decreases-loop : tie.decreases-loop-left
decreases-loop table start mask out₀ at left₀ next₀ out left next = left

-- where the call begins, and where a turn goes on with a cell of the table
started : (s : tie.Start invariant-loop decreases-loop) → let a = s.args in
    let row = open_in a.table.now a.start a.mask in Chained row a.out.now a.at row a.out.now a.at
started s =
    let a = s.args in
    chained-start (open_in a.table.now a.start a.mask) a.out.now a.at s.requires.0 s.requires.1

first-here : (c : tie.Else-table-here invariant-loop decreases-loop) → let l = c.loop-left in let a = c.args in
    open_in a.table.now a.start l.left
    ≡ get_or a.table.now (a.start + count_trailing_zeros 32 l.left) 0 ∷ open_in a.table.now a.start (l.left - 2 ^ count_trailing_zeros 32 l.left)
first-here c =
    let l = c.loop-left in
    let a = c.args in
    open-first a.table.now a.start l.left (omega arith) (omega arith) (omega arith)

room-here : (c : tie.Else-table-here invariant-loop decreases-loop) → c.loop-left.next + 3 < most_plan_cells
room-here c = chained_more c.loop-left.invariant.2 _ _ (first-here c)

-- the bit is in the mask
small-here : (c : tie.In-loop-left invariant-loop decreases-loop) → count_trailing_zeros 32 c.loop-left.left < 32
small-here c = zeros-small 32 c.loop-left.left (omega arith) (omega arith)

shifted : (c : tie.In-loop-left invariant-loop decreases-loop) → let z = count_trailing_zeros 32 c.loop-left.left in
    (1 * 2 ^ z % 2 ^ 32 ≡ 2 ^ z) × (2 ^ z ≤ c.loop-left.left) × (0 < 2 ^ z)
shifted c =
    let l = c.loop-left.left in
    (bit_shifted (count_trailing_zeros 32 l) (small-here c), lowest_set 32 l (omega arith) (omega arith), pow_pos (count_trailing_zeros 32 l))

leaf-requires : tie.Need-leaf-requires invariant-loop decreases-loop
leaf-requires c κs = (omega arith, chained-room (started c.before.before.before))

returns : tie.Need-returns-then-table-start invariant-loop decreases-loop
returns c =
    let s = c.before.before.before.before in
    chained-end (started s) (open-outside s.args.table.now s.args.start s.args.mask (omega arith)) _ _ c.leaf.ensures

loop-holds : tie.Need-loop-left-init invariant-loop decreases-loop
loop-holds c = (omega arith, omega arith, started c.before.before)

cast-here : tie.Need-overflow_cast-here invariant-loop decreases-loop
cast-here c = record { fits = omega (arith, small-here c) }

add-here : tie.Need-overflow_add-here invariant-loop decreases-loop
add-here c = record { fits = omega (arith, small-here c) }

leaf-requires-2 : tie.Need-leaf-requires-then-table-here invariant-loop decreases-loop
leaf-requires-2 c κs = (omega arith, chained-room c.loop-left.invariant.2)

returns-2 : tie.Need-returns-then-table-here invariant-loop decreases-loop
returns-2 c =
    let l = c.loop-left in
    let a = c.args in
    chained-end l.invariant.2 (open_none a.table.now a.start l.left (omega arith) (omega arith) (omega arith)) _ _ c.leaf-then-table-here.ensures

add-second : tie.Need-overflow_add-second invariant-loop decreases-loop
add-second c = search rules

add-third : tie.Need-overflow_add-third invariant-loop decreases-loop
add-third c = search rules

mul-out : tie.Need-offset_bounds-out-next invariant-loop decreases-loop
mul-out c = search rules

element-write-out : tie.Need-bounds-out-next invariant-loop decreases-loop
element-write-out c = omega (arith, room-here c.before)

mul-out-2 : tie.Need-offset_bounds-out-second invariant-loop decreases-loop
mul-out-2 c = search rules

element-write-out-2 : tie.Need-bounds-out-second invariant-loop decreases-loop
element-write-out-2 c = omega (arith, room-here c.before)

mul-out-3 : tie.Need-offset_bounds-table-here invariant-loop decreases-loop
mul-out-3 c = search rules

shared-slice-read-out : tie.Need-bounds-table-here invariant-loop decreases-loop
shared-slice-read-out c = search rules

mul-out-4 : tie.Need-offset_bounds-out-third invariant-loop decreases-loop
mul-out-4 c = search rules

element-write-out-3 : tie.Need-bounds-out-third invariant-loop decreases-loop
element-write-out-3 c = omega (arith, room-here c.before.before)

shl-left : tie.Need-overflow_shl-left invariant-loop decreases-loop
shl-left c = small-here c.before.before.before

sub-left : tie.Need-overflow_sub-left invariant-loop decreases-loop
sub-left c = omega (arith, shifted c.before.before.before)

add-next : tie.Need-overflow_add-next invariant-loop decreases-loop
add-next c = search rules

loop-less : tie.Need-loop-left-smaller invariant-loop decreases-loop
loop-less c = omega (arith, shifted c.before.before.before)

loop-again : tie.Need-loop-left-preserved invariant-loop decreases-loop
loop-again c =
    let l = c.loop-left in
    let z = count_trailing_zeros 32 l.left in
    let s = shifted c.before.before.before in
    (omega arith, omega arith, rw s.0 (chained-next l.invariant.2 _ _ (first-here c.before.before)))

leaf-requires-3 : tie.Need-leaf-requires-2 invariant-loop decreases-loop
leaf-requires-3 c κs = (omega arith, chained-room c.loop-left.invariant.2)

returns-3 : tie.Need-returns invariant-loop decreases-loop
returns-3 c =
    let l = c.loop-left in
    let a = c.args in
    let e : l.left ≡ 0 = omega arith in
    chained-end l.invariant.2 (ap (open_in a.table.now a.start) e ∙ kept-none (drop a.start a.table.now)) _ _ c.leaf-2.ensures

pub alone_spec : {M : Type 1} → statement M
alone_spec =
    tie.close
    (tie.spec
    invariant-loop
    decreases-loop
    leaf-requires
    returns
    loop-holds
    cast-here
    add-here
    leaf-requires-2
    returns-2
    add-second
    add-third
    mul-out
    element-write-out
    mul-out-2
    element-write-out-2
    mul-out-3
    shared-slice-read-out
    mul-out-4
    element-write-out-3
    shl-left
    sub-left
    add-next
    loop-less
    loop-again
    leaf-requires-3
    returns-3)

use Prim.Native.Nat.{◌+◌, ◌≤◌}
use mathlib.Core.Path.{◌≡◌}
use native.Mathlib.Omega.{arith}
use lib.ListN.{length}
use borrow.Author.Rules.{rules}
use Rattle.octets.specs.Octets.{decimal}
use Rattle.handing.proofs.MeasureLaws.{one-digit, more-digits}
use Rattle.handing.proofs.measure.digits.Statement.{statement}
use Rattle.handing.proofs.measure.digits.Tie as tie

abbrev invariant-loop : tie.invariant-loop-left
invariant-loop n left₀ count₀ left count =
    (count + left ≤ n + 1) × (count + length (decimal left) ≡ 1 + length (decimal n))

abbrev decreases-loop : tie.decreases-loop-left
decreases-loop n left₀ count₀ left count = left

-- src/measure.rt:12:5
loop-holds : tie.Need-loop-left-init invariant-loop decreases-loop
loop-holds c = (omega arith, omega arith)

-- src/measure.rt:14:9
add-count : tie.Need-overflow_add-count invariant-loop decreases-loop
add-count c = search rules

-- src/measure.rt:12:5
loop-less : tie.Need-loop-left-smaller invariant-loop decreases-loop
loop-less c = omega arith

-- src/measure.rt:12:5
loop-again : tie.Need-loop-left-preserved invariant-loop decreases-loop
loop-again c =
    let l = c.loop-left in
    (omega arith, omega (arith, l.invariant.1, more-digits l.left (omega arith)))

-- src/measure.rt:7:1
returns : tie.Need-returns invariant-loop decreases-loop
returns c =
    let l = c.loop-left in
    omega (arith, l.invariant.1, one-digit l.left (omega arith))

pub digits_spec : {M : Type 1} → statement M
digits_spec =
    tie.close (tie.spec invariant-loop decreases-loop loop-holds add-count loop-less loop-again returns)

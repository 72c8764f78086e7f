use Prim.Native.Nat.{◌-◌}
use native.Mathlib.Omega.{arith}
use Rattle.octets.proofs.DecimalLaws.{digits-few}
use Rattle.handing.proofs.MeasureLaws.{low-bytes, high-bytes}
use borrow.Author.Rules.{rules}
use Rattle.handing.proofs.measure.value_bytes.Statement.{statement}
use Rattle.handing.proofs.measure.value_bytes.Tie as tie

-- src/measure.rt:32:9
number-requires : tie.Need-number-n-requires
number-requires c κs = search rules

-- src/measure.rt:34:23
cast-digits : tie.Need-overflow_cast-n
cast-digits c = search rules

-- src/measure.rt:34:9
digits-requires : tie.Need-digits-requires
digits-requires c κs = search rules

-- src/measure.rt:34:9
returns : tie.Need-returns-then-n-lt32768
returns c =
    let n = c.number-n in
    low-bytes c.args.c n.result c.digits.result n.ensures c.if-n-lt32768.true c.digits.ensures

-- src/measure.rt:36:17
sub-digits : tie.Need-overflow_sub-n
sub-digits c = search rules

-- src/measure.rt:36:16
cast-digits-2 : tie.Need-overflow_cast-n-2
cast-digits-2 c = search rules

-- src/measure.rt:36:9
digits-requires-2 : tie.Need-digits-requires-2
digits-requires-2 c κs = search rules

-- src/measure.rt:36:5
add-result : tie.Need-overflow_add-result
add-result c = record { fits = omega (arith, c.digits-2.ensures, digits-few 4 (65536 - c.number-n.result) (omega arith)) }

-- src/measure.rt:29:1
returns-2 : tie.Need-returns
returns-2 c =
    let n = c.number-n in
    high-bytes c.args.c n.result c.digits-2.result n.ensures (omega arith) c.digits-2.ensures

pub value_bytes_spec : {M : Type 1} → statement M
value_bytes_spec =
    tie.close
    (tie.spec
    number-requires
    cast-digits
    digits-requires
    returns
    sub-digits
    cast-digits-2
    digits-requires-2
    add-result
    returns-2)

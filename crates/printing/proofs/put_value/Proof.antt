use native.Mathlib.Omega.{arith}
use Rattle.printing.proofs.SymbolLaws.{value_low, value-high}
use borrow.Author.Rules.{rules}
use Rattle.printing.proofs.put_value.Statement.{statement}
use Rattle.printing.proofs.put_value.Tie as tie

number-requires : tie.Need-number-n-requires
number-requires c κs = search rules

cast-put-decimal : tie.Need-overflow_cast-n
cast-put-decimal c = search rules

put-decimal-requires : tie.Need-put_decimal-requires
put-decimal-requires c κs = search rules

sub-put-tagged : tie.Need-overflow_sub-n
sub-put-tagged c = search rules

put-tagged-requires : tie.Need-put_tagged-requires
put-tagged-requires c κs = search rules

same_length : tie.Need-shape_of-out-then-n-lt32768
same_length c = search rules

returns : tie.Need-returns-then-n-lt32768
returns c =
    let n = c.number-n in
    rw (value_low _ n.ensures (omega arith)) c.put_decimal.ensures

same-length-2 : tie.Need-shape_of-out-else-n-lt32768
same-length-2 c = search rules

returns-2 : tie.Need-returns-else-n-lt32768
returns-2 c =
    let n = c.number-n in
    rw (value-high _ n.ensures (omega arith) (omega arith)) c.put_tagged.ensures

pub put_value_spec : {M : Type 1} → statement M
put_value_spec =
    tie.close
    (tie.spec
    number-requires
    cast-put-decimal
    put-decimal-requires
    sub-put-tagged
    put-tagged-requires
    same_length
    returns
    same-length-2
    returns-2)

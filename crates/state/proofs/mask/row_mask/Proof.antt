use native.Mathlib.Omega.{arith}
use lib.Pow.{pow_pos}
use Rattle.state.proofs.MaskLaws.{bit_shifted}
use borrow.Author.Tests.{lt-ltb, le-ltb}
use borrow.Author.Rules.{rules}
use Rattle.state.proofs.mask.row_mask.Statement.{statement}
use Rattle.state.proofs.mask.row_mask.Tie as tie

cast-result : tie.Need-overflow_cast-result
cast-result c = search rules

shl-result : tie.Need-overflow_shl-result
shl-result c = search rules

sub-result : tie.Need-overflow_sub-result
sub-result c = omega (arith, pow_pos c.args.n, bit_shifted c.args.n (omega arith))

returns : tie.Need-returns-then-n-lt32
returns c = rw (bit_shifted c.args.n (omega arith), lt-ltb c.args.n 32 (omega arith))

returns-2 : tie.Need-returns-else-n-lt32
returns-2 c = simp (le-ltb c.args.n 32 (omega arith))

pub row_mask_spec : {M : Type 1} → statement M
row_mask_spec = tie.close (tie.spec cast-result shl-result sub-result returns returns-2)

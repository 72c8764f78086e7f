-- `place` (src/lib.rt).
use native.Mathlib.Omega.{arith}
use lib.Bits.{and_mask, mask_lt}
use Rattle.repeats.proofs.place.Statement.{statement}
use Rattle.repeats.proofs.place.Tie as tie

cast-result : tie.Need-overflow_cast-result
cast-result c = record { fits = omega (arith, mask_lt c.args.c 5) }

returns : tie.Need-returns
returns c = let e = and_mask c.args.c 5 in (omega arith, λ h. omega arith)

pub place_spec : {M : Type 1} → statement M
place_spec = tie.close (tie.spec cast-result returns)

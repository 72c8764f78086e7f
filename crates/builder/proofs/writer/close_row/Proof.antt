use mathlib.Core.Path.{◌≡◌}
use Prim.Native.Nat.{◌*◌, ◌%◌, ◌^◌, ◌≤◌, ◌<◌}
use native.Mathlib.Omega.{arith}
use borrow.Author.Rules.{rules}
use Rattle.state.proofs.MaskLaws.{bit_shifted}
use Rattle.builder.proofs.ClosingLaws.{bit-small, bit-set, row-closed}
use Rattle.builder.proofs.writer.close_row.Statement.{statement}
use Rattle.builder.proofs.writer.close_row.Tie as tie

root-at-requires : tie.Need-root_at-bit-requires
root-at-requires c κs = search rules

bit-here : (c : tie.After-root_at-bit) → let b = c.root_at-bit.result in
    (b < 32) × (2 ^ b ≤ c.args.mask) × (1 * 2 ^ b % 2 ^ 32 ≡ 2 ^ b)
bit-here c =
    let q = c.requires in
    let h = bit-small q (omega arith) c.root_at-bit.result c.root_at-bit.ensures in
    (h, bit-set q (omega arith) c.root_at-bit.result c.root_at-bit.ensures, bit_shifted c.root_at-bit.result h)

cast-rest : tie.Need-overflow_cast-rest
cast-rest c = record { fits = omega (arith, bit-here c) }

shl-rest : tie.Need-overflow_shl-rest
shl-rest c = omega (arith, bit-here c)

sub-rest : tie.Need-overflow_sub-rest
sub-rest c = omega (arith, bit-here c)

cast-t8 : tie.Need-overflow_cast-result
cast-t8 c = record { fits = omega (arith, bit-here c) }

shr-t9 : tie.Need-overflow_shr-result
shr-t9 c = omega (arith, bit-here c)

cast-t10 : tie.Need-overflow_cast-result-2
cast-t10 c = record { fits = omega (arith, bit-here c) }

shl-t11 : tie.Need-overflow_shl-result
shl-t11 c = omega (arith, bit-here c)

returns : tie.Need-returns
returns c = λ q. rw (bit-here c).2 (row-closed q (omega arith) c.root_at-bit.result c.root_at-bit.ensures)

pub close_row_spec : {M : Type 1} → statement M
close_row_spec =
    tie.close
    (tie.spec root-at-requires cast-rest shl-rest sub-rest cast-t8 shr-t9 cast-t10 shl-t11 returns)

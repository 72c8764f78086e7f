-- Fields put together by masks: t at bit 30, a at bit 16, n below. Stated over t, since a literal there would be computed.
use mathlib.Core.Path.{◌≡◌}
use Prim.Native.Nat.{ℕ, ◌+◌, ◌*◌, ◌-◌, ◌%◌, ◌^◌, ◌<◌}
use native.Mathlib.Omega.{arith}
use lib.Pow.{shl_exact}
use lib.Bits.{bit_or, bit_and, or_shifted, and_mask}

pub packed : (t a n : ℕ)
    → bit_or (bit_or (t * 2 ^ 30) (bit_and a (2 ^ 3 - 1) * 2 ^ 16 % 2 ^ 32)) (bit_and n (2 ^ 16 - 1)) ≡ t * 2 ^ 30 + a % 2 ^ 3 * 2 ^ 16 + n % 2 ^ 16
packed t a n =
    let h : a % 2 ^ 3 < 2 ^ 14 = omega arith in
    let l : a % 2 ^ 3 * 2 ^ 16 < 2 ^ 30 = omega arith in
    let e : t * 2 ^ 30 + a % 2 ^ 3 * 2 ^ 16 ≡ (t * 2 ^ 14 + a % 2 ^ 3) * 2 ^ 16 = omega arith in
    rw (
      and_mask a 3,
      and_mask n 16,
      shl_exact 14 16 32 h (omega arith),
      or_shifted t 30 (a % 2 ^ 3 * 2 ^ 16) l,
      e,
      or_shifted (t * 2 ^ 14 + a % 2 ^ 3) 16 (n % 2 ^ 16) (omega arith),
    )

pub tagged : (t n : ℕ) → bit_or (t * 2 ^ 30) (bit_and n (2 ^ 16 - 1)) ≡ t * 2 ^ 30 + n % 2 ^ 16
tagged t n = rw (and_mask n 16, or_shifted t 30 (n % 2 ^ 16) (omega arith))

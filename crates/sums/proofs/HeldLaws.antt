-- Numbers as far as 64 bits hold them, added up one after another. (`plus` answers what it is to, and so one number alone.)
use Prim.Native.Nat.{ℕ, ◌+◌, ◌^◌, ◌<◌}
use mathlib.Core.Path.{◌≡◌}
use native.Mathlib.Omega.{arith}
use Rattle.sums.specs.Sums.{held, up_by}

-- so many more and then so many more are that many more together
pub up_up : (n a b : ℕ) → up_by (up_by n a) b ≡ up_by n (a + b)
up_up n a b = omega arith

-- of what is added up so far and what is still to come, only what 64 bits hold counts
pub held_up : (n a b : ℕ) → n < 2 ^ 64 → held (up_by n a + b) ≡ held (n + (a + b))
held_up n a b h = omega arith

pub held_all : (n : ℕ) → n < 2 ^ 64 → held (n + 0) ≡ n
held_all n h = omega arith

pub held_none : (n : ℕ) → held (0 + n) ≡ held n
held_none n = omega arith

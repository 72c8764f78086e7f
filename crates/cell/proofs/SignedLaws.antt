-- The value of 16 bits: as the machine's 32 bits have it, and that value and bits undo each other.
use Prim.Native.Nat.{ℕ, suc, ◌-◌, ◌≤◌, ◌<◌}
use mathlib.Core.Path.{◌≡◌, refl, sym, ap, ◌∙◌}
use mathlib.Core.Bool.{Bool, true, false, cond}
use native.Mathlib.Omega.{arith}
use lib.Dec.{ltb}
use lib.IntN.{ℤ, pos, negsuc, ◌-ℤ◌}
use borrow.Author.Tests.{lt-ltb, le-ltb, ltb-true, ltb-false}
use mir.Syntax.{w32}
use mir.Val.{to_z, of_z, SFits}
use mir.Facts.{to_z_pos, to_z-of_z}
use Rattle.cell.specs.Signed.{signed_of, bits_of, InRange}

-- 65,536 less, in 32 bits
less : (n : ℕ) → n < 65536 → to_z w32 n -ℤ pos 65536 ≡ negsuc (65535 - n)
less n h =
    let l : n < 2147483648 = omega arith in
    let e : 65536 - suc n ≡ 65535 - n = omega arith in
    rw (to_z_pos w32 l, lt-ltb n 65536 h, e)

pub less-fits : (n : ℕ) → n < 65536 → SFits w32 (to_z w32 n -ℤ pos 65536)
less-fits n h = rw (less n h) (record { sfits = let l : 65535 - n < 2147483648 = omega arith in l })

-- the two cases of the value
pub low : (n : ℕ) → n < 32768 → to_z w32 n ≡ signed_of n
low n h = let l : n < 2147483648 = omega arith in rw (to_z_pos w32 l, lt-ltb n 32768 h)

pub high : (n : ℕ) → 32768 ≤ n → n < 65536 → to_z w32 (of_z w32 (to_z w32 n -ℤ pos 65536)) ≡ signed_of n
high n k h = to_z-of_z (less-fits n h) ∙ less n h ∙ rw (le-ltb n 32768 k)

-- "from -32,768 to 32,767"
pub signed_range : (n : ℕ) → n < 65536 → InRange (signed_of n)
signed_range n h = by (ltb n 32768) refl
  where
    by : (b : Bool) → ltb n 32768 ≡ b → InRange (cond b (pos n) (negsuc (65535 - n)))
    by true e = ltb-true n 32768 e
    by false e = omega (arith, ltb-false n 32768 e)

-- a value of 16 bits, stored in 32 and read back
pub stored : (n : ℕ) {z : ℤ} → n < 65536 → z ≡ signed_of n → to_z w32 (of_z w32 z) ≡ signed_of n
stored n h e = rw e (by (signed_of n) (signed_range n h))
  where
    by : (z : ℤ) → InRange z → to_z w32 (of_z w32 z) ≡ z
    by (pos m) l = to_z-of_z {w = w32} (record { sfits = let k : m < 2147483648 = omega arith in k })
    by (negsuc m) l = to_z-of_z {w = w32} (record { sfits = let k : m < 2147483648 = omega arith in k })

-- the bits of their value
pub bits-signed : (n : ℕ) → n < 65536 → bits_of (signed_of n) ≡ n
bits-signed n h = by (ltb n 32768)
  where
    by : (b : Bool) → bits_of (cond b (pos n) (negsuc (65535 - n))) ≡ n
    by true = refl
    by false = omega arith

-- the value of its bits
pub signed-bits : (z : ℤ) → InRange z → signed_of (bits_of z) ≡ z
signed-bits (pos n) h = rw (lt-ltb n 32768 h)
signed-bits (negsuc n) h = let e : 65535 - (65535 - n) ≡ n = omega arith in rw (le-ltb (65535 - n) 32768 (omega arith), e)

pub bits_range : (z : ℤ) → InRange z → bits_of z < 65536
bits_range (pos n) h = omega arith
bits_range (negsuc n) h = omega arith

-- two numbers with one value have one cell
pub signed-one : (m n : ℕ) → m < 65536 → n < 65536 → signed_of m ≡ signed_of n → m ≡ n
signed-one m n h k e = sym (bits-signed m h) ∙ ap bits_of e ∙ bits-signed n k

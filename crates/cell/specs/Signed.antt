-- The value of a number's 16 bits (02, W-206), and the bits of a value.
use Rattle.std.specs.Prelude.{ℕ, ◌-◌, ◌<◌, cond, ltb, ℤ, pos, negsuc}

-- "A number's 16 bits are now two's complement": from 32,768 on they are 65,536 less. `negsuc k` is -(k + 1)
abbrev pub signed_of : ℕ → ℤ
signed_of n = cond (ltb n 32768) (pos n) (negsuc (65535 - n))

abbrev pub bits_of : ℤ → ℕ
bits_of (pos n) = n
bits_of (negsuc n) = 65535 - n

-- "from -32,768 to 32,767"
abbrev pub InRange : ℤ → Type 0
InRange (pos n) = n < 32768
InRange (negsuc n) = n < 32768

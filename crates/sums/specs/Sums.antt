-- Counts of 64 bits.
use Rattle.std.specs.Prelude.{ℕ, ◌+◌, ◌-◌, ◌^◌, min}

-- a number, as far as 64 bits hold it
abbrev pub held : ℕ → ℕ
held n = min n (2 ^ 64 - 1)

-- n and so many more, as far as 64 bits hold it: at the largest number it stays
abbrev pub up_by : (n more : ℕ) → ℕ
up_by n more = n + min more (2 ^ 64 - 1 - n)

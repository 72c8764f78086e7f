-- An answer as one number of 64 bits, as the entries for C and Rust give it (include/dudowiej.h), and how it is read back:
--   answered   2^16 · first + 2^32 · second           first < 2^16, second < 2^32
--   refused    number + 2^8 · input + 2^16 · place    1 ≤ number < 2^8, input < 2^8, place < 2^48
-- That what is coded is read back is proved in proofs/CodedLaws.
use Rattle.std.specs.Prelude.{ℕ, ◌+◌, ◌*◌, ◌/◌, ◌%◌, ◌^◌, ◌≤◌, ◌<◌, cond, eqb}
use Rattle.refusal.specs.Refusal.{Answer, answered, turned}

abbrev pub coded : Answer → ℕ
coded (answered first second) = 2 ^ 16 * first + 2 ^ 32 * second
coded (turned f) = f.number + 2 ^ 8 * f.input + 2 ^ 16 * f.place

-- an answer whose parts fit their bits
abbrev pub Small : Answer → Type 0
Small (answered first second) = (first < 2 ^ 16) × (second < 2 ^ 32)
Small (turned f) = (1 ≤ f.number) × (f.number < 2 ^ 8) × (f.input < 2 ^ 8) × (f.place < 2 ^ 48)

-- The header's own masks and shifts: `& 0xff` is `% 2 ^ 8`, and `>> 8` is `/ 2 ^ 8`.

-- dudowiej_number: `answer & 0xff`
abbrev pub number_in : ℕ → ℕ
number_in n = n % 2 ^ 8

-- dudowiej_input: `answer >> 8 & 0xff`
abbrev pub input_in : ℕ → ℕ
input_in n = n / 2 ^ 8 % 2 ^ 8

-- dudowiej_place: `answer >> 16`
abbrev pub place_in : ℕ → ℕ
place_in n = n / 2 ^ 16

-- dudowiej_first: `answer >> 16 & 0xffff`
abbrev pub first_in : ℕ → ℕ
first_in n = n / 2 ^ 16 % 2 ^ 16

-- dudowiej_second: `answer >> 32`
abbrev pub second_in : ℕ → ℕ
second_in n = n / 2 ^ 32

-- no refusal has the number 0
abbrev pub decoded : ℕ → Answer
decoded code =
    cond (eqb (number_in code) 0) (answered (first_in code) (second_in code))
    (turned (record { number = number_in code; input = input_in code; place = place_in code }))

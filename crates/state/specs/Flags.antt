-- The flags of a state's open places as one number (02, W-213): bit i is set where open place i is inside a named column.
use Rattle.std.specs.Prelude.{ℕ, zero, suc, ◌+◌, ◌-◌, ◌*◌, ◌/◌, ◌%◌, ◌^◌, max, Bool, cond, ◌&&◌, ◌||◌, List, [], ◌∷◌, eqb, ltb}
use Rattle.limits.specs.Limits.{most_columns}

-- the k lowest bits of a number
unfoldable pub flags_in : ℕ → ℕ → List Bool
flags_in zero n = []
flags_in (suc k) n = eqb (n % 2) 1 ∷ flags_in k (n / 2)

-- the number with bit i put a times in its place: `spread` of plan/specs/Named (proofs/FlagsLaws)
abbrev pub spread_in : (named i a : ℕ) → ℕ
spread_in n i a = n % 2 ^ i + 2 ^ i * (n / 2 ^ i % 2 * (2 ^ a - 1) + 2 ^ a * (n / 2 ^ i / 2))

-- a place may be chosen where no bit is set, or its own is: `may` of plan/specs/Named
unfoldable pub may_in : (named i : ℕ) → Bool
may_in n i = eqb n 0 || (ltb i 64 && eqb (n / 2 ^ i % 2) 1)

-- what the code answers: at most 32 places are open, and a cell has at most 4 arguments
unfoldable pub spread_of : (named i a : ℕ) → ℕ
spread_of n i a = cond (ltb i 32 && (ltb a 5 && ltb n (2 ^ 32))) (spread_in n i a) 0

-- the columns of a list as bits, and one more than the largest of its numbers. A table has at most 8 columns
abbrev pub with_column : ℕ → ℕ → ℕ
with_column mask c = cond (ltb c most_columns && eqb (mask / 2 ^ c % 2) 0) (mask + 2 ^ c) mask

unfoldable pub mask_from : ℕ → List ℕ → ℕ
mask_from mask [] = mask
mask_from mask (c ∷ columns) = mask_from (with_column mask c) columns

unfoldable pub past_from : ℕ → List ℕ → ℕ
past_from past [] = past
past_from past (c ∷ columns) = past_from (max past (c + 1)) columns

-- Numbers one after another, in the order in which they are put.
use mathlib.Core.Path.{◌≡◌, refl, ap}
use mathlib.Core.List.{List, [], ◌∷◌, ◌++◌, flatten}
use Prim.Native.Nat.{ℕ, suc, ◌+◌, ◌-◌, ◌≤◌, ◌<◌}
use native.Mathlib.Omega.{arith}
use native.Mathlib.Numerals.{add-one}
use lib.ListN.{length, get_or, take, drop, drop_of_length-le}
use lib.Seq.{drop-cons, take_all}
use Rattle.octets.specs.Octets.{decimal}
use Rattle.message.specs.Words.{ascii}
use Rattle.mendwords.specs.Mended.{other_text, others_text, numbers_text}

others-first : (n : ℕ) (numbers : List ℕ) → others_text (n ∷ numbers) ≡ other_text n ++ others_text numbers
unfolding flatten
others-first n numbers = refl

pub others-on : (numbers : List ℕ) (i : ℕ) → i < length numbers
    → others_text (drop i numbers) ≡ other_text (get_or numbers i 0) ++ others_text (drop (i + 1) numbers)
others-on numbers i h = rw (drop-cons numbers i 0 h, add-one i) (others-first (get_or numbers i 0) (drop (suc i) numbers))

pub others-done : (numbers : List ℕ) (i : ℕ) → length numbers ≤ i → others_text (drop i numbers) ≡ []
unfolding flatten
others-done numbers i h = ap others_text (drop_of_length-le numbers h)

pub numbers-none : (numbers : List ℕ) → length numbers ≡ 0 → numbers_text numbers ≡ ascii "none"
unfolding numbers_text
numbers-none [] e = refl
numbers-none (n ∷ numbers) e = absurd (omega arith)

-- the first number, and the part after it
pub numbers-some : (numbers : List ℕ) → (length numbers ≡ 0 → ⊥)
    → numbers_text numbers ≡ decimal (get_or numbers 0 0) ++ others_text (take (length numbers - 1) (drop 1 numbers))
unfolding numbers_text
numbers-some [] n = absurd (n refl)
numbers-some (n ∷ numbers) h = rw (take_all (suc (length numbers) - 1) numbers (omega arith))

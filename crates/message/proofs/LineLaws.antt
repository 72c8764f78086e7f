-- The bytes of a goal in one line, one after another.
use mathlib.Core.Path.{◌≡◌, ap}
use mathlib.Core.List.{List, [], ◌∷◌, ◌++◌, map}
use Prim.Native.Nat.{ℕ, ◌+◌, ◌≤◌, ◌<◌}
use native.Mathlib.Numerals.{add-one}
use lib.ListN.{length, get_or, drop, drop_of_length-le}
use lib.Seq.{drop-cons}

module _ (f : ℕ → ℕ) where
  pub bytes_on : (xs : List ℕ) (i : ℕ) → i < length xs → map f (drop i xs) ≡ (f (get_or xs i 0) ∷ []) ++ map f (drop (i + 1) xs)
  bytes_on xs i h = rw (drop-cons xs i 0 h, add-one i)

  pub bytes-done : (xs : List ℕ) (i : ℕ) → length xs ≤ i → map f (drop i xs) ≡ []
  bytes-done xs i h = ap (map f) (drop_of_length-le xs h)

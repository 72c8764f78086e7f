-- Words that stand once: what is known of the entries before a place, and one more.
use Prim.Native.Nat.{ℕ, ◌+◌, ◌<◌}
use mathlib.Core.Path.{◌≡◌, sym}
use mathlib.Core.Logic.{◌≢◌}
use mathlib.Core.Bool.{Bool, true, false, true≢false}
use mathlib.Core.List.{List}
use native.Mathlib.Omega.{arith}
use native.Mathlib.Decide.{dec_lt}
use lib.ListN.{length, get_or}
use Rattle.cell.specs.Same.{same}
use Rattle.cell.proofs.SameLaws.{same-eq, same-differ}
use Rattle.termtext.specs.Saying.{word_in}
use Rattle.naming.specs.Says.{Says}
use Rattle.naming.specs.code.Names.{FreshTo, ApartTo}

module _ (text names : List ℕ) where
  pub fresh-none : (k : ℕ) → FreshTo text names k 0
  fresh-none k = record { apart = λ j h. absurd (omega arith) }

  pub fresh-more : (k i : ℕ) → FreshTo text names k i → same (word_in text (get_or names i 0)) (word_in text (get_or names k 0)) ≡ false
      → FreshTo text names k (i + 1)
  fresh-more k i f e = record { apart = λ j h. go j h (dec_lt j i) }
    where
      go : (j : ℕ) → j < i + 1 → Dec (j < i) → word_in text (get_or names j 0) ≢ word_in text (get_or names k 0)
      go j h (yes l) = f.apart j l
      go j h (no l) = let q : j ≡ i = omega arith in rw q (same-differ _ _ e)

  pub fresh-not : (k i : ℕ) → i < k → same (word_in text (get_or names i 0)) (word_in text (get_or names k 0)) ≡ true → FreshTo text names k k → ⊥
  fresh-not k i h e f = f.apart i h (same-eq _ _ e)

  pub apart_none : ApartTo text names 0
  apart_none = record { each = λ j h. absurd (omega arith) }

  pub apart_more : (k : ℕ) (b : Bool) → ApartTo text names k → Says (FreshTo text names k k) b → b ≡ true → ApartTo text names (k + 1)
  apart_more k true a s e = record { each = λ j h. go j h (dec_lt j k) }
    where
      go : (j : ℕ) → j < k + 1 → Dec (j < k) → FreshTo text names j j
      go j h (yes l) = a.each j l
      go j h (no l) = let q : j ≡ k = omega arith in rw q s
  apart_more k false a s e = absurd (true≢false (sym e))

  pub apart-not : (k : ℕ) (b : Bool) → k < length names → Says (FreshTo text names k k) b → b ≡ false
      → ApartTo text names (length names) → ⊥
  apart-not k true h s e a = true≢false e
  apart-not k false h s e a = s (a.each k h)

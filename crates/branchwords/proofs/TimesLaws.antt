-- A word so many times, as a loop puts it: one time less.
use Prim.Native.Nat.{ℕ, zero, suc, ◌-◌, ◌≤◌, ◌<◌}
use mathlib.Core.Path.{◌≡◌, refl}
use mathlib.Core.List.{List, [], ◌++◌}
use native.Mathlib.Omega.{arith}
use Rattle.branchwords.specs.Branches.{times_text}

module _ (word : List ℕ) where
  pub times_none : (n : ℕ) → n ≤ 0 → times_text n word ≡ []
  unfolding times_text
  times_none zero h = refl
  times_none (suc n) h = absurd (omega arith)

  pub times_more : (n : ℕ) → 0 < n → times_text n word ≡ word ++ times_text (n - 1) word
  unfolding times_text
  times_more zero h = absurd (omega arith)
  times_more (suc n) h = let e : suc n - 1 ≡ n = omega arith in rw e

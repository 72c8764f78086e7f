-- The array of what is kept, by its places: two numbers are a pair of rows or not, and every place of the array belongs to two numbers.
use mathlib.Core.Path.{◌≡◌, refl, sym, ◌∙◌}
use mathlib.Core.Logic.{◌⊎◌, inl, inr}
use mathlib.Core.Bool.{Bool, true, false}
use mathlib.Core.List.{List}
use Prim.Native.Nat.{ℕ, ◌+◌, ◌-◌, ◌*◌, ◌/◌, ◌%◌, ◌≤◌, ◌<◌}
use native.Mathlib.Omega.{arith}
use lib.Dec.{leb, ltb}
use borrow.Author.Tests.{leb-true, leb-false, ltb-true, ltb-false}
use lib.ListN.{length, get_or}
use lib.Seq.{ext_get_or}
use Rattle.least.specs.Entries.{SameAt}
use Rattle.limits.specs.Limits.{kept_cells}

-- two numbers are a pair of rows, or there is no such pair
pub data IsPair (n first last : ℕ) : Type 0 where
  pair : first ≤ last → last < n → IsPair n first last
  no-pair : (last < first) ⊎ (n ≤ last) → IsPair n first last

pub is-pair : (n first last : ℕ) → IsPair n first last
is-pair n first last = go (leb first last) (ltb last n) refl refl
  where
    go : (b c : Bool) → leb first last ≡ b → ltb last n ≡ c → IsPair n first last
    go true true e q = pair (leb-true first last e) (ltb-true last n q)
    go true false e q = no-pair (inr (ltb-false last n q))
    go false c e q = no-pair (inl (leb-false first last e))

-- a number of the array, by its part and its pair
data At (i : ℕ) : Type 0 where
  in_whole : (first last : ℕ) → first < 64 → last < 64 → i ≡ 64 * first + last → At i
  in-cost : (first last : ℕ) → first < 64 → last < 64 → i ≡ 4096 + (64 * first + last) → At i
  in_place : (first last : ℕ) → first < 64 → last < 64 → i ≡ 8192 + (64 * first + last) → At i

at-is : (i : ℕ) → i < kept_cells → At i
at-is i h = go (ltb i 4096) (ltb i 8192) refl refl
  where
    go : (b c : Bool) → ltb i 4096 ≡ b → ltb i 8192 ≡ c → At i
    go true c e f = in_whole (i / 64) (i % 64) (omega (arith, ltb-true i 4096 e)) (omega arith) (omega arith)
    go false true e f =
        in-cost ((i - 4096) / 64) ((i - 4096) % 64) (omega (arith, ltb-true i 8192 f)) (omega arith) (omega (arith, ltb-false i 4096 e))
    go false false e f = in_place ((i - 8192) / 64) ((i - 8192) % 64) (omega arith) (omega arith) (omega (arith, ltb-false i 8192 f))

-- two arrays that are the same at every pair are one
pub same_kept : (old new : List ℕ) → length old ≡ kept_cells → length new ≡ kept_cells
    → ((first last : ℕ) → first < 64 → last < 64 → SameAt first last old new) → old ≡ new
same_kept old new l l' same = ext_get_or 0 old new (l ∙ sym l') (λ i h. go i (at-is i (omega arith)))
  where
    go : (i : ℕ) → At i → get_or old i 0 ≡ get_or new i 0
    go i (in_whole first last h l e) = rw e (sym (same first last h l).whole)
    go i (in-cost first last h l e) = rw e (sym (same first last h l).cost)
    go i (in_place first last h l e) = rw e (sym (same first last h l).place)

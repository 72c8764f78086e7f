-- A number that lies in a range, as the library tests it and as the definitions say it.
use Prim.Native.Nat.{ℕ}
use mathlib.Core.Path.{◌≡◌}
use mathlib.Core.Bool.{Bool, true, false, cond, not, ◌&&◌, ◌||◌}
use native.Mathlib.Omega.{arith}
use lib.Dec.{ltb}
use Rattle.std.specs.declared.ops.RangeInclusive.{RangeInclusive}
use Rattle.std.specs.Range.{range_inclusive_start, range_inclusive_end, range_inclusive_exhausted}
use Rattle.std.proofs.Common.{is_le, is_lt, nat_cmp}
use Rattle.std.proofs.lemmas.Bool.Decides.{nat_tests}

ordered : (a x : ℕ) → is_le (nat_cmp a x) ≡ not (ltb x a)
ordered a x = grind (arith, nat_tests)

both-not : (a b : Bool) → (not a && not b) ≡ not (a || b)
both-not a b = grind arith

pub in_range : {r : RangeInclusive ℕ} {b : Bool} (low high x : ℕ) → range_inclusive_start r ≡ low → range_inclusive_end r ≡ high
    → range_inclusive_exhausted r ≡ false
    → b ≡ (is_le (nat_cmp (range_inclusive_start r) x)
    && cond (range_inclusive_exhausted r) (is_lt (nat_cmp x (range_inclusive_end r))) (is_le (nat_cmp x (range_inclusive_end r))))
    → b ≡ not (ltb x low || ltb high x)
in_range low high x s e f g = rw (g, s, e, f, ordered low x, ordered x high) (both-not (ltb x low) (ltb high x))

pub outside : {b o : Bool} → b ≡ not o → b ≡ false → o ≡ true
outside e f = grind arith

pub inside : {b o : Bool} → b ≡ not o → b ≡ true → o ≡ false
inside e f = grind arith

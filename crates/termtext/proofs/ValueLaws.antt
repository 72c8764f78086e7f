-- A number of 16 bits, printed with its sign, is read as that number.
use Prim.Native.Nat.{ℕ, suc, ◌+◌, ◌-◌, ◌≤◌, ◌<◌}
use mathlib.Core.Path.{◌≡◌, refl}
use mathlib.Core.Bool.{Bool, true, false, cond}
use mathlib.Core.List.{List, [], ◌∷◌, ◌++◌}
use native.Mathlib.Omega.{arith}
use lib.Dec.{ltb}
use lib.IntN.{pos, negsuc}
use lib.ListN.{length}
use borrow.Author.Tests.{ltb-true, ltb-false}
use Rattle.cell.specs.Signed.{signed_of}
use Rattle.octets.specs.Octets.{decimal}
use Rattle.printing.specs.Printing.{signed_decimal}
use Rattle.grammar.specs.Grammar as G
use Rattle.grammar.specs.Grammar.{negative, number, Term}
use Rattle.termtext.proofs.SpellLaws.{decimal-read}

-- the digits of a number that is not below zero, and of one that is
low-term : (n p : ℕ) (ys : List ℕ) → n ≤ 32767 → Term p (decimal n ++ ys) (p + length (decimal n)) ys (number n ∷ [])
low-term n p ys h =
    let r = decimal-read n in
    let e : p + suc (length r.rest) ≡ suc p + length r.rest = omega arith in
    rw (r.is, e) (G.is_number r.first (r.digits (suc p) ys) h)

high-term : (m n p : ℕ) (ys : List ℕ) → m ≤ 32768 → n ≡ negative m
    → Term p (45 ∷ (decimal m ++ ys)) (p + suc (length (decimal m))) ys (number n ∷ [])
high-term m n p ys h b =
    let r = decimal-read m in
    let e : p + suc (suc (length r.rest)) ≡ suc (suc p) + length r.rest = omega arith in
    rw (r.is, e) (G.is_negative r.first (r.digits (suc (suc p)) ys) h b)

pub number-term : (n p : ℕ) (ys : List ℕ) → n < 65536
    → Term p (signed_decimal (signed_of n) ++ ys) (p + length (signed_decimal (signed_of n))) ys (number n ∷ [])
number-term n p ys h = by (ltb n 32768) refl
  where
    by : (b : Bool) → ltb n 32768 ≡ b
        → Term p (signed_decimal (cond b (pos n) (negsuc (65535 - n))) ++ ys)
        (p + length (signed_decimal (cond b (pos n) (negsuc (65535 - n))))) ys (number n ∷ [])
    by true e = low-term n p ys (omega (arith, ltb-true n 32768 e))
    by false e = let b = ltb-false n 32768 e in high-term (suc (65535 - n)) n p ys (omega arith) (omega arith)

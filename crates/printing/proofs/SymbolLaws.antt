-- The value of a cell by its sign, and the symbol of a cell by what the cell is.
use mathlib.Core.Path.{◌≡◌, sym, ap, ◌∙◌}
use mathlib.Core.List.{[], ◌∷◌, ◌++◌}
use Prim.Native.Nat.{ℕ, suc, ◌-◌, ◌≤◌, ◌<◌}
use native.Mathlib.Omega.{arith}
use lib.IntN.{ℤ}
use borrow.Author.Tests.{lt-ltb, le-ltb}
use Rattle.cell.specs.Signed.{signed_of, bits_of}
use Rattle.cell.specs.Cell.{number_of, Values, number_values, values_at, values_of}
use Rattle.cell.specs.declared.Shape.{Shape}
use Rattle.cell.specs.declared.Shape.TheVariants.{Variable, Name, Number, Refused}
use Rattle.cell.proofs.CellLaws.{values-small, number-value}
use Rattle.octets.specs.Octets.{decimal}
use Rattle.printing.specs.Printing.{dash, signed_decimal, value, symbol_of, symbol_text}

-- the value of 16 bits, by their sign
pub value_low : (c : ℕ) {n : ℕ} → n ≡ number_of c → n < 32768 → value c ≡ decimal n
value_low c {n} e h = ap (λ (m : ℕ). signed_decimal (signed_of m)) (sym e) ∙ rw (lt-ltb n 32768 h)

pub value-high : (c : ℕ) {n : ℕ} → n ≡ number_of c → 32768 ≤ n → n < 65536 → value c ≡ dash ∷ decimal (65536 - n)
value-high c {n} e h l =
    let q : suc (65535 - n) ≡ 65536 - n = omega arith in
    ap (λ (m : ℕ). signed_decimal (signed_of m)) (sym e) ∙ rw (le-ltb n 32768 h) (ap (λ (m : ℕ). dash ∷ decimal m) q)

module _ (c : ℕ) (s : Shape) (v : values_of s ≡ values_at c) where
  pub symbol-variable : (n : ℕ) → s ≡ Variable n → symbol_text c ≡ 118 ∷ decimal n
  unfolding symbol_of
  symbol-variable n e = ap symbol_of (sym v ∙ ap values_of e)

  pub symbol-name : (a n : ℕ) → s ≡ Name a n → symbol_text c ≡ (110 ∷ decimal n) ++ (47 ∷ decimal a)
  unfolding symbol_of
  symbol-name a n e = ap symbol_of (sym v ∙ ap values_of e)

  pub symbol-number : (z : ℤ) → s ≡ Number z → symbol_text c ≡ (105 ∷ []) ++ value c
  unfolding symbol_of
  symbol-number z e =
      let same : values_at c ≡ number_values (bits_of z) z = sym v ∙ ap values_of e in
      let is : z ≡ signed_of (number_of c) = ap (λ (v : Values). v.value) (sym same) ∙ number-value c (ap (λ (v : Values). v.kind) same) in
      ap symbol_of same ∙ ap (λ (y : ℤ). 105 ∷ signed_decimal y) is

  pub symbol-none : s ≡ Refused → symbol_text c ≡ []
  unfolding symbol_of
  symbol-none e = ap symbol_of (sym v ∙ ap values_of e)

  -- a name has at most 4 arguments
  pub name-few : (a n : ℕ) → s ≡ Name a n → a ≤ 4
  name-few a n e =
      let same : values_of (Name a n) ≡ values_at c = ap values_of (sym e) ∙ v in
      omega (arith, ap (λ (v : Values). v.args) same, values-small c)

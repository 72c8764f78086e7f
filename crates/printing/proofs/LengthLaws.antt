-- How long a symbol is, and the line of a refusal.
use mathlib.Core.List.{◌∷◌}
use Prim.Native.Nat.{ℕ, suc, ◌^◌, ◌≤◌, ◌<◌}
use native.Mathlib.Omega.{arith}
use lib.IntN.{ℤ, pos, negsuc}
use lib.ListN.{length, length-append}
use Rattle.cell.specs.Signed.{signed_of, InRange}
use Rattle.cell.specs.Cell.{number_of, args_of, Values}
use Rattle.cell.proofs.SignedLaws.{signed_range}
use Rattle.cell.proofs.CellLaws.{Reading, a-variable, a-name, a-number, no_cell, reading, values-small}
use Rattle.octets.specs.Octets.{decimal}
use Rattle.octets.proofs.DecimalLaws.{digits-few}
use Rattle.printing.specs.Printing.{signed_decimal, symbol_of, symbol_text, refusal}

-- a value has at most 6 bytes: `-32768`
signed-few : (z : ℤ) → InRange z → length (signed_decimal z) ≤ 6
signed-few (pos n) h = omega (arith, digits-few 4 n (omega arith))
signed-few (negsuc n) h = omega (arith, digits-few 4 (suc n) (omega arith))

-- a symbol has at most 8 bytes: `n65535/4`
symbol-by : (c : ℕ) {v : Values} → Reading c v → v.args ≤ 4 → v.number < 2 ^ 16 → length (symbol_of v) ≤ 8
unfolding symbol_of
symbol-by c (a-variable k m) h l = omega (arith, digits-few 4 (number_of c) (omega arith))
symbol-by c (a-name k m) h l =
    omega (
      arith,
      digits-few 4 (number_of c) (omega arith),
      digits-few 0 (args_of c) (omega arith),
      length-append (decimal (number_of c)) (47 ∷ decimal (args_of c)),
    )
symbol-by c (a-number k m) h l = omega (arith, signed-few (signed_of (number_of c)) (signed_range (number_of c) (omega arith)))
symbol-by c (no_cell n) h l = omega arith

pub symbol-few : (c : ℕ) → length (symbol_text c) ≤ 8
symbol-few c = let v = values-small c in symbol-by c (reading c) v.0 v.1

-- any refusal of numbers of 64 bits
pub refusal-few : (number place : ℕ) → number < 2 ^ 64 → place < 2 ^ 64 → length (refusal number place) ≤ 53
unfolding refusal
refusal-few number place hn hp = simp length-append (omega (arith, digits-few 19 number (omega arith), digits-few 19 place (omega arith)))

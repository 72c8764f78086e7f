-- W-206, proved of the promises and of the grammar. The statements are in specs/Numbers.
use Prim.Native.Nat.{ℕ, ◌^◌, ◌<◌}
use mathlib.Core.Path.{◌≡◌, sym, ap, subst, ◌∙◌}
use mathlib.Core.List.{List, [], ◌∷◌}
use native.Mathlib.Omega.{arith}
use Rattle.cell.specs.Signed.{signed_of}
use Rattle.cell.specs.Cell.{number_values, values_at, values_of}
use Rattle.cell.specs.declared.Shape.{Shape}
use Rattle.cell.proofs.SignedLaws.{bits-signed, signed_range}
use Rattle.cell.proofs.CellLaws.{built-number}
use Rattle.cell.proofs.Fixed.{shape-fixed}
use Rattle.octets.specs.Octets.{Put}
use Rattle.octets.proofs.DecimalLaws.{decimal-small}
use Rattle.printing.specs.Printing.{symbol_of, symbol_text}
use Rattle.grammar.specs.Grammar.{number}
use Rattle.grammar.proofs.Range.{leaves, plain-leaves, minus-leaves}
use Rattle.grammar.proofs.Written.{plain_value, negative-value, negative-small, value-bits, plain-term, minus-term}
use Rattle.termtext.proofs.ValueLaws.{number-term}
use Rattle.demands.specs.Numbers.{Request206, ReadsCell, PrintsSymbol, PrintsMinusOne, TakesMinus, TakesDigits, OutOfRange}

pub request-206 : (bits : ℕ) → bits < 2 ^ 16 → Request206 bits
request-206 bits h = record { range = signed_range bits h; back = bits-signed bits h; read = λ p ys. number-term bits p ys h }

-- every answer that the promise of `cell::shape_of` allows
pub reads-cell : (c : ℕ) (answer : Shape) → values_of answer ≡ values_at c → ReadsCell c answer
reads-cell c answer e bits h q =
    shape-fixed c e (ap (λ (n : ℕ). number_values n (signed_of bits)) (bits-signed bits h) ∙ sym (built-number bits h) ∙ ap values_at (sym q))

-- and what that of `printing::put_symbol` does
pub prints-symbol : (c : ℕ) (out out' : List ℕ) (to r : ℕ) → Put out out' to (symbol_text c) r → PrintsSymbol c out out' to r
unfolding symbol_of
prints-symbol c out out' to r x bits h q =
    subst (λ (text : List ℕ). Put out out' to text r) (ap symbol_text q ∙ ap symbol_of (built-number bits h)) x

pub prints-minus-one : PrintsMinusOne
prints-minus-one = ap (λ (digits : List ℕ). 45 ∷ digits) (decimal-small 1 (omega arith))

pub takes-minus : TakesMinus
takes-minus p q xs ys symbols = (
  λ t. let x = minus-term.0 t in record {
    n = x.0;
    digits = x.1;
    within = x.2;
    is = record { bits = _; small = negative-small x.0; one = x.3; cell = negative-value x.0 x.2 };
  },
  λ r. minus-term.1 (r.n, r.digits, r.within, r.is.one ∙ ap (λ (k : ℕ). number k ∷ []) (value-bits r.is.bits r.is.small r.is.cell)),
)

pub takes-digits : TakesDigits
takes-digits p digit q xs ys symbols d = (
  λ t. let x = (plain-term d).0 t in record {
    n = x.0;
    digits = x.1;
    within = x.2;
    is = record { bits = x.0; small = omega (arith, x.2); one = x.3; cell = plain_value x.0 x.2 };
  },
  λ r. (plain-term d).1 (r.n, r.digits, r.within, r.is.one ∙ ap (λ (k : ℕ). number k ∷ []) (value-bits r.is.bits r.is.small r.is.cell)),
)

pub out_of_range : OutOfRange
out_of_range = record {
  above = λ before xs k x l. plain-leaves x l;
  below = λ before xs k x l. minus-leaves x l;
  each = λ most p q n xs ys h x l. leaves most h x l;
}

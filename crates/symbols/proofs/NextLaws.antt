-- What stands next, in the code's own form.
use Prim.Native.Nat.{ℕ, zero, suc, ◌+◌, ◌-◌}
use mathlib.Core.Path.{◌≡◌, sym, subst}
use mathlib.Core.Bool.{Bool, true}
use mathlib.Core.List.{List}
use native.Mathlib.Omega.{arith}
use Rattle.lex.specs.Turns.{Turns}
use Rattle.lex.specs.Heads.{Heads, Closes}
use Rattle.lex.specs.declared.turn.Turn.{Turn}
use Rattle.lex.specs.declared.turn.Turn.TheVariants as turn
use Rattle.lex.specs.declared.fact.Head.{Head}
use Rattle.lex.specs.declared.Stop.{Stop}
use Rattle.std.specs.Prelude.{Result}
use Rattle.symbols.specs.Next.{RowAhead, After, close, row}
use Rattle.symbols.specs.declared.Ahead.{Ahead}

-- cases of an answer
pub turn_is : (t : List ℕ) (at : ℕ) (past : Bool) {r x : Turn} → Turns t at past r → r ≡ x → Turns t at past x
turn_is t at past c e = subst (Turns t at past) e c

pub head-is : (t : List ℕ) (at : ℕ) (first : Bool) {r x : Head} → Heads t at first r → r ≡ x → Heads t at first x
head-is t at first c e = subst (Heads t at first) e c

pub end_is : (t : List ℕ) (at : ℕ) {r x : Result ℕ Stop} → Closes t at r → r ≡ x → Closes t at x
end_is t at c e = subst (Closes t at) e c

-- a bracket: of a name that is open, or of the fact
pub close_more : {t : List ℕ} (p d : ℕ) {x : Turn} {r : Ahead} → (d ≡ 0 → ⊥) → Turns t (p + 1) true x → After t (d - 1) x r
    → After t d (turn.Close p) r
close_more p zero n c a = absurd (n (omega arith))
close_more {t} p (suc d) {x} {r} n c a =
    let e : suc d - 1 ≡ d = omega arith in
    close c (subst (λ (k : ℕ). After t k x r) e a)

pub row_more : {t : List ℕ} {p d : ℕ} {r : Ahead} → d ≡ 0 → RowAhead t (p + 1) r → After t d (turn.Close p) r
row_more {t} {p} {r = r} e x = subst (λ (k : ℕ). After t k (turn.Close p) r) (sym e) (row x)

-- 02, W-206: "numbers outside the new range are TEXT in W-201", at the digit that leaves the range.
use Prim.Native.Nat.{ℕ, suc, ◌+◌, ◌-◌, ◌*◌, ◌≤◌, ◌<◌}
use mathlib.Core.Path.{◌≡◌, ap, ◌∙◌}
use mathlib.Core.Bool.{Bool, true, false}
use mathlib.Core.List.{List, ◌∷◌, ◌++◌}
use native.Mathlib.Omega.{arith}
use native.Mathlib.Decide.{dec_lt}
use lib.ListN.{length}
use borrow.Author.Tests.{lt-leb}
use Rattle.grammar.specs.Grammar as G
use Rattle.grammar.specs.Grammar.{is_digit, Digits}
use Rattle.grammar.specs.Reader.{arg, minus, digits, Work, limit, step, stops, run}
use Rattle.grammar.specs.Stops.{Stops}
use Rattle.grammar.specs.Numbers.{Decimal, decimal, Leaves, TermNext}
use Rattle.grammar.proofs.Complete.{run-digits, at-digit, at-minus, after_minus}
use Rattle.grammar.proofs.Sound.{digit-small}
use Rattle.grammar.proofs.Accepted.{refused-at}
use Rattle.grammar.proofs.Awaits.{said, said-stops, Awaits, awaits}

-- DIGITS THAT LEAVE THE RANGE
run-leaves : {v p k value digit : ℕ} {xs rest : List ℕ} (sign : Bool) (w : Work) → Digits v p xs k (digit ∷ rest) value → value ≤ limit sign
    → is_digit digit ≡ true → limit sign < 10 * value + (digit - 48) → run xs (digits sign v) w p ≡ stops k
unfolding run step
run-leaves {value = n} {digit = d} sign w x l e h = run-digits sign w x l ∙ rw (e, lt-leb (10 * n + (d - 48)) (limit sign) h)

stops_at : {u : List ℕ} {k : ℕ} (a : Awaits u) (xs : List ℕ) → run xs arg a.work (length u) ≡ stops k → Stops (u ++ xs) k
stops_at {u} {k} a xs e = (refused-at (u ++ xs) k).0 (a.on xs ∙ ap (said a.facts) e ∙ said-stops a.facts k)

-- without a minus sign, and after one
plain-run : {p k n d : ℕ} {xs rest : List ℕ} (w : Work) → Decimal p xs k (d ∷ rest) n → n ≤ 32767 → is_digit d ≡ true
    → 32767 < 10 * n + (d - 48) → run xs arg w p ≡ stops k
plain-run w (decimal {p = p} {b = b} {xs = xs} f x) l e h = at-digit b xs w p f ∙ run-leaves false w x l e h

minus-run : {p k n d : ℕ} {xs rest : List ℕ} (w : Work) → Decimal p xs k (d ∷ rest) n → n ≤ 32768 → is_digit d ≡ true
    → 32768 < 10 * n + (d - 48) → run xs minus w p ≡ stops k
minus-run w (decimal {p = p} {b = b} {xs = xs} f x) l e h = after_minus b xs w p f ∙ run-leaves true w x l e h

pub plain-leaves : {u xs : List ℕ} {k : ℕ} → TermNext u → Leaves 32767 (length u) xs k → Stops (u ++ xs) k
plain-leaves {u} {xs} x l = let a = awaits u x in stops_at a xs (plain-run a.work l.before l.within l.is_digit l.above)

pub minus-leaves : {u xs : List ℕ} {k : ℕ} → TermNext u → Leaves 32768 (suc (length u)) xs k → Stops (u ++ (45 ∷ xs)) k
minus-leaves {u} {xs} x l =
    let a = awaits u x in
    stops_at a (45 ∷ xs) (at-minus xs a.work (length u) ∙ minus-run a.work l.before l.within l.is_digit l.above)

-- EVERY NUMBER OUTSIDE leaves the range at one of its digits
record From (most v p : ℕ) (xs : List ℕ) : Type 0 where
  at : ℕ
  value : ℕ
  digit : ℕ
  rest : List ℕ
  digits : Digits v p xs at (digit ∷ rest) value
  within : value ≤ most
  is_digit : is_digit digit ≡ true
  above : most < 10 * value + (digit - 48)

leaves-from : {v p q n : ℕ} {xs ys : List ℕ} (most : ℕ) → Digits v p xs q ys n → v ≤ most → most < n → From most v p xs
leaves-from most G.none l h = absurd (omega arith)
leaves-from {v} {p} most (G.more {digit = d} {xs = xs} e x) l h = by (dec_lt most (10 * v + (d - 48))) (λ m. leaves-from most x m h)
  where
    by : Dec (most < 10 * v + (d - 48)) → (10 * v + (d - 48) ≤ most → From most (10 * v + (d - 48)) (suc p) xs) → From most v p (d ∷ xs)
    by (yes a) f = record { at = p; value = v; digit = d; rest = xs; digits = G.none; within = l; is_digit = e; above = a }
    by (no a) f =
        let r = f (omega arith) in
        record {
          at = r.at;
          value = r.value;
          digit = r.digit;
          rest = r.rest;
          digits = G.more e r.digits;
          within = r.within;
          is_digit = r.is_digit;
          above = r.above;
        }

pub leaves : {p q n : ℕ} {xs ys : List ℕ} (most : ℕ) → 9 ≤ most → Decimal p xs q ys n → most < n → (k : ℕ) × Leaves most p xs k
leaves most m (decimal {b = b} e x) h =
    let r = leaves-from most x (omega (arith, digit-small b e)) h in (
      r.at,
      record {
        value = r.value;
        digit = r.digit;
        rest = r.rest;
        before = decimal e r.digits;
        within = r.within;
        is_digit = r.is_digit;
        above = r.above;
      },
    )

-- Two results that a promise allows are equal, for every text and place.
use Prim.Native.Nat.{ℕ, ◌+◌}
use mathlib.Core.Path.{◌≡◌, refl, sym, ap, subst, ◌∙◌}
use mathlib.Core.Bool.{true, false}
use mathlib.Core.List.{List}
use native.Mathlib.Omega.{arith}
use Rattle.lex.specs.Heads.{head_of, end_of}
use Rattle.lex.specs.declared.turn.Turn.{Turn}
use Rattle.lex.specs.declared.fact.Head.{Head}
use Rattle.lex.specs.declared.fact.Head.TheVariants as head
use Rattle.lex.specs.declared.Stop.{Stop}
use Rattle.std.specs.Prelude.{Option, Some, None, Result, Ok, Err}
use Rattle.lex.proofs.Fixed.{turn-fixed}
use Rattle.symbols.specs.Next.{spot, RowEnds, Begins, RowAhead, next_row, last_row, After, NextIs, too-deep, stands}
use Rattle.symbols.specs.Next as next
use Rattle.symbols.specs.declared.Spot.{Spot}
use Rattle.symbols.specs.declared.Ahead.{Ahead}

-- the same as functions of what stands there
abbrev headed : Head → Option ℕ
headed (head.Open s e) = Some (e + 1)
headed head.End = None
headed (head.Stop p) = None

abbrev ended : List ℕ → Result ℕ Stop → Option ℕ
ended t (Ok q) = headed (head_of t q false)
ended t (Err p) = None

abbrev started : Head → Spot
started (head.Open s e) = spot (e + 1) false 0
started head.End = spot 0 false 0
started (head.Stop p) = spot 0 false 0

row-end-is : {t : List ℕ} {at : ℕ} {r : Option ℕ} → RowEnds t at r → r ≡ ended t (end_of t at)
row-end-is {t} (next.another c h) = ap headed h.is ∙ ap (ended t) c.is
row-end-is {t} (next.no_more c h) = ap headed h.is ∙ ap (ended t) c.is
row-end-is {t} (next.no-fact c h) = ap headed h.is ∙ ap (ended t) c.is
row-end-is {t} (next.no_stop c) = ap (ended t) c.is

begins-is : {t : List ℕ} {sp : Spot} → Begins t sp → sp ≡ started (head_of t 0 true)
begins-is (next.opens h) = ap started h.is
begins-is (next.empty h) = ap started h.is
begins-is (next.no-fact h) = ap started h.is

pub row-end-fixed : {t : List ℕ} {at : ℕ} {a b : Option ℕ} → RowEnds t at a → RowEnds t at b → a ≡ b
row-end-fixed x y = row-end-is x ∙ sym (row-end-is y)

pub begin-fixed : {t : List ℕ} {a b : Spot} → Begins t a → Begins t b → a ≡ b
begin-fixed x y = begins-is x ∙ sym (begins-is y)

-- what stands after a row's end
row-ahead-fixed : {t : List ℕ} {at : ℕ} {a b : Ahead} → RowAhead t at a → RowAhead t at b → a ≡ b
row-ahead-fixed (next_row x) (next_row y) = let e = row-end-fixed x y in cc
row-ahead-fixed (next_row x) (last_row y) = absurd (let e = row-end-fixed x y in let z : ◌≡◌ {A = ℕ} 0 1 = cc in omega arith)
row-ahead-fixed (last_row x) (next_row y) = absurd (let e = row-end-fixed x y in let z : ◌≡◌ {A = ℕ} 0 1 = cc in omega arith)
row-ahead-fixed (last_row x) (last_row y) = refl

-- turn after turn
after-fixed : {t : List ℕ} {d : ℕ} {x : Turn} {a b : Ahead} → After t d x a → After t d x b → a ≡ b
after-fixed next.a-name next.a-name = refl
after-fixed next.opens next.opens = refl
after-fixed next.a-variable next.a-variable = refl
after-fixed next.a-number next.a-number = refl
after-fixed {t} {d} {b = b} (next.comma c x) (next.comma u y) =
    after-fixed x (subst (λ (z : Turn). After t d z b) (turn-fixed u c) y)
after-fixed {t} {b = b} (next.close {d = d} c x) (next.close u y) =
    after-fixed x (subst (λ (z : Turn). After t d z b) (turn-fixed u c) y)
after-fixed (next.row x) (next.row y) = row-ahead-fixed x y
after-fixed next.stop next.stop = refl

pub next-fixed : {t : List ℕ} {sp : Spot} {a b : Ahead} → NextIs t sp a → NextIs t sp b → a ≡ b
next-fixed (too-deep h) (too-deep k) = refl
next-fixed (too-deep h) (stands k u y) = absurd (omega arith)
next-fixed (stands h c x) (too-deep k) = absurd (omega arith)
next-fixed {t} {sp} {b = b} (stands h c x) (stands k u y) =
    after-fixed x (subst (λ (z : Turn). After t sp.depth z b) (turn-fixed u c) y)

use Prim.Native.Nat.{ℕ, ◌+◌, ◌-◌, ◌*◌, ◌≤◌, ◌<◌}
use mathlib.Core.Path.{◌≡◌, refl, sym, ap, subst, ◌∙◌}
use native.Mathlib.Omega.{arith}
use borrow.Author.Tests.{not-true, not-false}
use lib.ListN.{length, get_or, drop}
use Rattle.grammar.specs.Reader.{digits, limit, run}
use Rattle.lex.specs.code.Ends.{Counts}
use Rattle.lex.specs.declared.turn.Turn.TheVariants as turn
use Rattle.lex.proofs.ByteLaws.{digit-least, in-digits, digits-over, digits-end-at, digits-end-text, limit-most, on_go, on-dead}
use Rattle.lex.proofs.ByteLaws.{number-ended, number-ends, number-over, number-digit}
use Rattle.lex.proofs.TurnLaws.{number-done}
use Rattle.lex.proofs.turn.number_from.Goals as goal

pub loop-i-init : goal.loop-i-init
loop-i-init c = (c.requires.1, λ w. refl, refl)

pub bits_of-requires : goal.bits_of-requires
bits_of-requires c = omega (arith, c.loop-i.invariant.0, limit-most c.args.minus)

pub returns-then-not-is_digit : goal.returns-then-not-is_digit
returns-then-not-is_digit c =
    let a = c.args in
    let t = a.text.now in
    let l = c.loop-i in
    let d = sym c.is_digit.ensures ∙ not-true _ c.if-not-is_digit.true-raw in
    number-done t a.at l.i a.minus a.first l.value c.bits_of.ensures (omega arith) (omega arith) l.invariant.0
    (number-ends t l.i a.minus l.value (omega arith) d)
    (λ w. digits-end-at t l.i a.minus l.value w (omega arith) d)
    l.invariant.1 l.invariant.2

pub overflow_mul-n : goal.overflow_mul-n
overflow_mul-n c = omega (arith, c.loop-i.invariant.0, limit-most c.args.minus)

pub overflow_sub-byte : goal.overflow_sub-byte
overflow_sub-byte c =
    let l = digit-least (get_or c.args.text.now c.loop-i.i 0) (sym c.is_digit.ensures ∙ not-false _ c.if-not-is_digit.false-raw) in omega (arith, l.0)

pub overflow_add-n : goal.overflow_add-n
overflow_add-n c =
    let l = digit-least (get_or c.args.text.now c.loop-i.i 0) (sym c.is_digit.ensures ∙ not-false _ c.if-not-is_digit.false-raw) in
    omega (arith, l.0, l.1, c.from.ensures, c.loop-i.invariant.0, limit-most c.args.minus)

pub returns-then-most-n : goal.returns-then-most-n
returns-then-most-n c =
    let a = c.args in
    let t = a.text.now in
    let i = c.loop-i.i in
    let v = c.loop-i.value in
    let d = sym c.is_digit.ensures ∙ not-false _ c.if-not-is_digit.false-raw in
    let l : limit a.minus < 10 * v + (get_or t i 0 - 48) = omega (arith, c.from.ensures, c.if-most-n.true, c.largest-most.ensures) in
    record {
      is = sym (number-over t i a.minus v (omega arith) d l) ∙ c.loop-i.invariant.2;
      leads = λ at h k. omega arith;
      same = λ w. sym (c.loop-i.invariant.1 w) ∙ on-dead t i (omega arith) (digits a.minus v) w (digits-over a.minus v w i (get_or t i 0) d l);
    }

pub loop-i-preserved : goal.loop-i-preserved
loop-i-preserved c =
    let a = c.args in
    let t = a.text.now in
    let i = c.loop-i.i in
    let v = c.loop-i.value in
    let d = sym c.is_digit.ensures ∙ not-false _ c.if-not-is_digit.false-raw in
    let n = 10 * v + c.from.result in
    let e : 10 * v + (get_or t i 0 - 48) ≡ n = omega (arith, c.from.ensures) in
    let l : n ≤ limit a.minus = omega (arith, c.if-most-n.false, c.largest-most.ensures) in (
      l,
      λ w.
          sym (on_go t i (omega arith) (digits a.minus v) (digits a.minus (10 * v + (get_or t i 0 - 48))) w w
          (in-digits a.minus v w i (get_or t i 0) d (omega (arith, e, l)))
          ∙ ap (λ (x : ℕ). run (drop (i + 1) t) (digits a.minus x) w (i + 1)) e)
          ∙ c.loop-i.invariant.1 w,
      sym (number-digit t i a.minus v (omega arith) d e l) ∙ c.loop-i.invariant.2,
    )

pub bits_of-requires-2 : goal.bits_of-requires-2
bits_of-requires-2 c = omega (arith, c.loop-i.invariant.0, limit-most c.args.minus)

pub returns : goal.returns
returns c =
    let a = c.args in
    let t = a.text.now in
    let l = c.loop-i in
    let e : l.i ≡ length t = omega arith in
    subst (λ (k : ℕ). Counts t a.at a.minus a.first (turn.Number c.bits_of-2.result k)) e
    (number-done t a.at l.i a.minus a.first l.value c.bits_of-2.ensures (omega arith) (omega arith) l.invariant.0
    (number-ended t l.i a.minus l.value (omega arith))
    (λ w. digits-end-text t l.i a.minus l.value w (omega arith))
    l.invariant.1 l.invariant.2)

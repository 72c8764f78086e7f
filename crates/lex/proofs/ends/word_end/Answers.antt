use Prim.Native.Nat.{ℕ}
use mathlib.Core.Path.{◌≡◌, sym, subst, ◌∙◌}
use native.Mathlib.Omega.{arith}
use borrow.Author.Tests.{not-true, not-false}
use mathlib.Core.Logic.{by_cases}
use native.Mathlib.Decide.{dec_lt}
use Rattle.std.specs.Prelude.{◌≤◌}
use lib.ListN.{length}
use Rattle.grammar.specs.Grammar as G
use Rattle.lex.specs.code.Ends.{WordTo}
use Rattle.lex.proofs.ByteLaws.{word_byte, ends_at, ends-end}
use Rattle.lex.proofs.ends.word_end.Goals as goal

pub loop-i-init : goal.loop-i-init
loop-i-init c = λ q ys l. l

pub returns-then-not-is_word : goal.returns-then-not-is_word
returns-then-not-is_word c =
    let t = c.args.text.now in
    let i = c.loop-i.i in
    record {
      word = c.loop-i.invariant _ _ G.none;
      ends = ends_at t i (omega arith) (sym c.is_word.ensures ∙ not-true _ c.if-not-is_word.true-raw);
      from = omega arith;
      within = λ h. omega arith;
    }

pub loop-i-preserved : goal.loop-i-preserved
loop-i-preserved c =
    let e = sym c.is_word.ensures ∙ not-false _ c.if-not-is_word.false-raw in
    λ q ys l. c.loop-i.invariant q ys (word_byte c.args.text.now c.loop-i.i (omega arith) e q ys l)

-- past the text's end there is no word
pub returns : goal.returns
returns c =
    let t = c.args.text.now in
    let at = c.args.at in
    let i = c.loop-i.i in
    by_cases (dec_lt (length t) at)
    (λ past.
    let e : at ≡ c.max.result = omega arith in
    subst (λ (k : ℕ). WordTo t at k) e (record { word = G.none; ends = ends-end t at (omega arith); from = omega arith; within = λ h. h }))
    (λ inside.
    let h : at ≤ length t = omega (arith, inside) in
    let e : i ≡ c.max.result = omega (arith, c.loop-i.auto.i-end h) in
    subst (λ (k : ℕ). WordTo t at k) e
    (record { word = c.loop-i.invariant _ _ G.none; ends = ends-end t i (omega arith); from = omega arith; within = λ l. omega arith }))

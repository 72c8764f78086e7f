use Prim.Native.Nat.{ℕ}
use mathlib.Core.Path.{◌≡◌, subst}
use native.Mathlib.Omega.{arith}
use lib.ListN.{length, drop}
use Rattle.grammar.specs.Grammar.{Line}
use Rattle.lex.proofs.ByteLaws.{line-ended, line-feed, line-byte}
use Rattle.lex.proofs.ends.line_end.Goals as goal

pub loop-i-init : goal.loop-i-init
loop-i-init c = λ q ys l. l

pub returns-then-text-i-eq10 : goal.returns-then-text-i-eq10
returns-then-text-i-eq10 c =
    let t = c.args.text.now in
    let i = c.loop-i.i in
    record { line = c.loop-i.invariant _ _ (line-feed t i (omega arith) c.if-text-i-eq10.true); from = omega arith; within = omega arith }

pub loop-i-preserved : goal.loop-i-preserved
loop-i-preserved c = λ q ys l. c.loop-i.invariant q ys (line-byte c.args.text.now c.loop-i.i (omega arith) c.if-text-i-eq10.false q ys l)

pub returns : goal.returns
returns c =
    let t = c.args.text.now in
    let at = c.args.at in
    let e : c.loop-i.i ≡ length t = omega arith in
    record {
      line = subst (λ (k : ℕ). Line at (drop at t) k (drop k t)) e (c.loop-i.invariant _ _ (line-ended t c.loop-i.i (omega arith)));
      from = omega arith;
      within = omega arith;
    }

use mathlib.Core.Path.{sym, ◌∙◌}
use native.Mathlib.Omega.{arith}
use borrow.Author.Tests.{not-true, not-false}
use Rattle.grammar.specs.Grammar as G
use Rattle.lex.proofs.ByteLaws.{gap-blank, gap-remark, solid-at, solid-end}
use Rattle.lex.proofs.ends.gap_end.Goals as goal

pub loop-i-init : goal.loop-i-init
loop-i-init c = (omega arith, λ h. h, λ q ys g. g)

pub loop-i-smaller-then-byte-eq37 : goal.loop-i-smaller-then-byte-eq37
loop-i-smaller-then-byte-eq37 c = omega (arith, c.line_end-i.ensures.from, c.line_end-i.ensures.within)

pub loop-i-preserved-then-byte-eq37 : goal.loop-i-preserved-then-byte-eq37
loop-i-preserved-then-byte-eq37 c =
    let t = c.args.text.now in
    let i = c.loop-i.i in
    let l = c.line_end-i.ensures in
    (omega (arith, l.from), λ h. l.within, λ q ys g. c.loop-i.invariant.2 q ys (gap-remark t i (omega arith) c.if-byte-eq37.true _ l.line q ys g))

pub returns-then-not-is_blank : goal.returns-then-not-is_blank
returns-then-not-is_blank c =
    record {
      gap = c.loop-i.invariant.2 _ _ G.none;
      solid = solid-at c.args.text.now c.loop-i.i (omega arith) (sym c.is_blank.ensures ∙ not-true _ c.if-not-is_blank.true-raw) c.if-byte-eq37.false;
      from = omega arith;
      within = c.loop-i.invariant.1;
    }

pub loop-i-preserved : goal.loop-i-preserved
loop-i-preserved c =
    let e = sym c.is_blank.ensures ∙ not-false _ c.if-not-is_blank.false-raw in
    (omega arith, λ h. omega arith, λ q ys g. c.loop-i.invariant.2 q ys (gap-blank c.args.text.now c.loop-i.i (omega arith) e q ys g))

pub returns : goal.returns
returns c =
    record {
      gap = c.loop-i.invariant.2 _ _ G.none;
      solid = solid-end c.args.text.now c.loop-i.i (omega arith);
      from = omega arith;
      within = c.loop-i.invariant.1;
    }

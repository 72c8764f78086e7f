use Rattle.std.proofs.Common.{◌≡◌, ℕ, ◌+◌, ◌-◌, arith, sym, ap, ◌∙◌}
use Rattle.paircosts.specs.code.Notes.{past_of}
use Rattle.paircosts.proofs.MarkLaws.{past-none, past-out, past_more, past-in}
use Rattle.paircosts.proofs.arrays.past.Goals as goal

pub returns-then-cells-at : goal.returns-then-cells-at
returns-then-cells-at c =
    sym (past-out c.args.cells.now (c.args.terms - c.loop.counter) c.loop.at c.if-cells-at.true) ∙ c.loop.invariant.ends

pub loop-preserved : goal.loop-preserved
loop-preserved c =
    let s = c.args.cells.now in
    let left : ℕ = c.args.terms - c.loop.counter in
    let e : c.end_in-at.result ≡ past_of s 1 c.loop.at =
    c.end_in-at.ensures ∙ c.requires.2 c.loop.at c.loop.invariant.on (omega (arith, c.if-cells-at.false)) in
    let n : c.args.terms - (c.loop.counter + 1) ≡ left - 1 = omega arith in
    record {
      ends = ap (λ (k : ℕ). past_of s k c.end_in-at.result) n ∙ ap (λ (q : ℕ). past_of s (left - 1) q) e
          ∙ past_more s left c.loop.at (omega arith) ∙ c.loop.invariant.ends;
      on = omega (arith, e, c.loop.invariant.on);
      inside = omega (arith, e, past-in s 1 c.loop.at c.loop.invariant.inside);
    }

pub returns : goal.returns
returns c = sym (past-none c.args.cells.now (c.args.terms - c.loop.counter) c.loop.at (omega arith)) ∙ c.loop.invariant.ends

use Rattle.std.proofs.Common.{arith}
use Rattle.cell.proofs.CellLaws.{arity-small}
use Rattle.checker.proofs.AloneLaws.{chain-leaf, few-owed, chain-ends, chain-open, chain-ends-2, chain-edges}
use Rattle.checker.proofs.AloneLaws.{chain-ends-3, chain-label, chain-less, chain-on}
use Rattle.checker.proofs.check.alone.Goals as goal

pub returns-then-plan-place : goal.returns-then-plan-place
returns-then-plan-place c = chain-ends c.loop-owed.invariant (omega arith) c.if-plan-place.true c.refusal.ensures

pub returns-then-owed-i : goal.returns-then-owed-i
returns-then-owed-i c =
    chain-open c.loop-owed.invariant (omega arith) (omega arith) c.if-owed-i.true c.refusal-then-owed-i.ensures

pub returns-then-plan-second : goal.returns-then-plan-second
returns-then-plan-second c =
    chain-ends-2 c.loop-owed.invariant (omega arith) (omega arith) (omega arith) c.if-plan-second.true
    c.refusal-then-plan-second.ensures

pub returns-then-plan-second-ne1 : goal.returns-then-plan-second-ne1
returns-then-plan-second-ne1 c =
    chain-edges c.loop-owed.invariant (omega arith) (omega arith) (omega arith)
    c.if-plan-second-ne1.true c.refusal-then-plan-second-ne1.ensures

pub returns-then-plan-third : goal.returns-then-plan-third
returns-then-plan-third c =
    chain-ends-3 c.loop-owed.invariant (omega arith) (omega arith) (omega arith)
    c.if-plan-second-ne1.false c.if-plan-third.true c.refusal-then-plan-third.ensures

pub returns-then-plan-third-2 : goal.returns-then-plan-third-2
returns-then-plan-third-2 c =
    chain-label c.loop-owed.invariant (omega arith) (omega arith) (omega arith) c.if-plan-second-ne1.false c.close_at-closed.ensures (omega arith)
    c.if-plan-third-2.true c.refusal-then-plan-third-2.ensures

pub overflow_add-owed : goal.overflow_add-owed
overflow_add-owed c =
    omega (arith, few-owed c.loop-owed.invariant, arity-small c.close_at-closed.result.cell, c.arity_of.ensures)

pub loop-owed-smaller : goal.loop-owed-smaller
loop-owed-smaller c =
    chain-less c.loop-owed.invariant (omega arith) (omega arith) (omega arith) c.if-plan-second-ne1.false c.close_at-closed.ensures (omega arith)

pub loop-owed-preserved : goal.loop-owed-preserved
loop-owed-preserved c =
    rw c.arity_of.ensures (chain-on c.loop-owed.invariant (omega arith) (omega arith) (omega arith) c.if-plan-second-ne1.false
    c.close_at-closed.ensures (omega arith) c.if-plan-third-2.false)

pub returns : goal.returns
returns c = chain-leaf c.loop-owed.invariant (omega arith) c.leaf.ensures

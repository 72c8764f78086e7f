use Rattle.std.proofs.Common.{◌≡◌, length, sym, ◌∙◌, arith}
use borrow.Author.Tests.{eqb-true, eqb-false}
use Rattle.state.proofs.ColumnLaws.{count_none, count-first, breaks-all, breaks-none, breaks-one}
use Rattle.state.proofs.column.run_count.Goals as goal
use Rattle.state.proofs.column.run_count.Goals.{then-not-same_symbol, else-not-same_symbol}

pub returns-then-is_empty : goal.returns-then-is_empty
returns-then-is_empty c = sym (count_none c.args.column.now (eqb-true (length c.args.column.now) 0 (sym c.is_empty.ensures ∙ c.if-is_empty.true)))

pub loop-row-init : goal.loop-row-init
loop-row-init c =
    let some = eqb-false (length c.args.column.now) 0 (sym c.is_empty.ensures ∙ c.if-is_empty.false) in
    (omega arith, count-first c.args.column.now (omega (arith, some)))

pub loop-row-preserved : goal.loop-row-preserved
loop-row-preserved c =
    let cs = c.args.column.now in
    let l = c.loop-row in
    let e = sym c.same_symbol.ensures in
    elim c.if-not-same_symbol.branch [
      | then-not-same_symbol w ↦ (omega arith, omega (arith, l.invariant.1, breaks-one cs l.row (omega arith) (e ∙ w.if-not-same_symbol.true)))
      | else-not-same_symbol w ↦ (omega arith, omega (arith, l.invariant.1, breaks-none cs l.row (omega arith) (e ∙ w.if-not-same_symbol.false)))
    ]

pub returns : goal.returns
returns c = let l = c.loop-row in omega (arith, l.invariant.1, breaks-all c.args.column.now l.row (omega arith))

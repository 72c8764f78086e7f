use Rattle.std.proofs.Common.{sym, ◌∙◌, arith}
use borrow.Author.Tests.{eq-eqb, ne_eqb}
use Rattle.builder.proofs.AgreedLaws.{agreeing-start, agreeing-all, agreeing-next, agreeing-not, agreeing-alone}
use Rattle.builder.proofs.writer.agreed_at.Goals as goal

pub returns-then-first-end : goal.returns-then-first-end
returns-then-first-end c = sym (eq-eqb _ _ (agreeing-alone _ _ _ _ _ _ c.if-first-end.true))

pub loop-row-init : goal.loop-row-init
loop-row-init c = agreeing-start _ _ _ _ _ _ c.close_at-cell.result.cell (omega arith) c.close_at-cell.ensures.cell

pub returns-then-not-same_symbol : goal.returns-then-not-same_symbol
returns-then-not-same_symbol c =
    let z = c.close_at-next in
    sym (ne_eqb _ _ (agreeing-not _ _ _ _ _ _ c.loop-row.invariant z.result.cell (omega arith) z.ensures.cell
    (sym c.same_symbol.ensures ∙ c.if-not-same_symbol.true)))

pub loop-row-preserved : goal.loop-row-preserved
loop-row-preserved c =
    let z = c.close_at-next in
    agreeing-next _ _ _ _ _ _ c.loop-row.invariant z.result.cell (omega arith) z.ensures.cell
    (sym c.same_symbol.ensures ∙ c.if-not-same_symbol.false)

pub returns : goal.returns
returns c = sym (eq-eqb _ _ (agreeing-all _ _ _ _ _ _ c.loop-row.invariant (omega arith)))

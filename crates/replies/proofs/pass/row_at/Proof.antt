-- `pass::row_at` meets its contract: the place of a row, from where the rows start.
use native.Mathlib.Omega.{arith}
use Rattle.replies.proofs.RowLaws.{row_next, row_last}
use borrow.Author.Rules.{rules}
use Rattle.replies.proofs.pass.row_at.Statement.{statement}
use Rattle.replies.proofs.pass.row_at.Tie as tie

wide-requires : tie.Need-wide-r-requires
wide-requires c κs = search rules

mul-start : tie.Need-offset_bounds-starts-r
mul-start c = search rules

element-copy-out-start : tie.Need-bounds-starts-r
element-copy-out-start c = search rules

add-next : tie.Need-overflow_add-next
add-next c = search rules

mul-end : tie.Need-offset_bounds-starts-next
mul-end c = search rules

element-copy-out-end : tie.Need-bounds-starts-next
element-copy-out-end c = search rules

returns : tie.Need-returns-then-next-rows
returns c = let w = c.wide-r in λ h l. row_next h w.result w.ensures l c.if-next-rows.true

returns-2 : tie.Need-returns
returns-2 c = let w = c.wide-r in λ h l. row_last h w.result w.ensures l (omega (arith, c.if-next-rows.false))

pub row_at_spec : {M : Type 1} → statement M
row_at_spec =
    tie.close
    (tie.spec
    wide-requires
    mul-start
    element-copy-out-start
    add-next
    mul-end
    element-copy-out-end
    returns
    returns-2)

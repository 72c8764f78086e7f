use native.Mathlib.Omega.{arith}
use Rattle.marks.proofs.MarkLaws.{marked-first, marked_next, marked-end}
use Rattle.marks.proofs.mark_of.Goals as goal

pub loop-byte-init : goal.loop-byte-init
loop-byte-init c = marked-first _ _

pub loop-byte-preserved : goal.loop-byte-preserved
loop-byte-preserved c =
    marked_next _ _ _ _ _ c.loop-byte.invariant (omega arith) (omega arith) c.feed-line.ensures.0 c.column_past-column.ensures.0 (omega arith) (omega arith)

pub returns : goal.returns
returns c = marked-end _ _ _ c.min.ensures c.loop-byte.invariant (omega arith)

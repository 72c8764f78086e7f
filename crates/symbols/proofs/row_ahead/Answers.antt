use mathlib.Core.Path.{subst}
use Rattle.symbols.specs.Next.{RowEnds}
use Rattle.symbols.specs.Next as next
use Rattle.symbols.proofs.row_ahead.Goals as goal

pub returns-in-Some : goal.returns-in-Some
returns-in-Some c =
    let st = c.args in
    next.next_row (subst (RowEnds st.text.now st.at) c.in-Some.is c.row_end.ensures)

pub returns-in-None : goal.returns-in-None
returns-in-None c =
    let st = c.args in
    next.last_row (subst (RowEnds st.text.now st.at) c.in-None.is c.row_end.ensures)

use native.Mathlib.Omega.{arith}
use borrow.Author.Rules.{rules}
use Rattle.symbols.specs.Next.{spot, After, NextIs}
use Rattle.symbols.specs.Next as next
use Rattle.symbols.proofs.NextLaws.{turn_is, close_more, row_more}
use Rattle.symbols.proofs.next_item.Goals as goal

pub returns-then-text-depth : goal.returns-then-text-depth
returns-then-text-depth c = next.too-deep c.if-text-depth.true

pub loop-s-init : goal.loop-s-init
loop-s-init c = (omega arith, λ x r u a. next.stands (omega arith) u a)

pub returns-in-Name : goal.returns-in-Name
returns-in-Name c =
    let l = c.loop-s in
    let st = c.args in
    let T = turn_is st.text.now l.at l.past c.next_turn.ensures c.in-Name.is in
    l.invariant.1 _ _ T next.a-name

pub overflow_add-result : goal.overflow_add-result
overflow_add-result c =
    let l = c.loop-s in
    let st = c.args in
    let T = turn_is st.text.now l.at l.past c.next_turn.ensures c.in-Open.is in
    omega (arith, T.leads.2)

pub returns-in-Open : goal.returns-in-Open
returns-in-Open c =
    let l = c.loop-s in
    let st = c.args in
    let T = turn_is st.text.now l.at l.past c.next_turn.ensures c.in-Open.is in
    l.invariant.1 _ _ T next.opens

pub returns-in-Variable : goal.returns-in-Variable
returns-in-Variable c =
    let l = c.loop-s in
    let st = c.args in
    let T = turn_is st.text.now l.at l.past c.next_turn.ensures c.in-Variable.is in
    l.invariant.1 _ _ T next.a-variable

pub returns-in-Number : goal.returns-in-Number
returns-in-Number c =
    let l = c.loop-s in
    let st = c.args in
    let T = turn_is st.text.now l.at l.past c.next_turn.ensures c.in-Number.is in
    l.invariant.1 _ _ T next.a-number

pub overflow_add-at : goal.overflow_add-at
overflow_add-at c =
    let l = c.loop-s in
    let st = c.args in
    let T = turn_is st.text.now l.at l.past c.next_turn.ensures c.in-Comma.is in
    search rules

pub loop-s-smaller-in-Comma : goal.loop-s-smaller-in-Comma
loop-s-smaller-in-Comma c =
    let l = c.loop-s in
    let st = c.args in
    let T = turn_is st.text.now l.at l.past c.next_turn.ensures c.in-Comma.is in
    omega (arith, T.leads.0, T.leads.1)

pub loop-s-preserved-in-Comma : goal.loop-s-preserved-in-Comma
loop-s-preserved-in-Comma c =
    let l = c.loop-s in
    let st = c.args in
    let T = turn_is st.text.now l.at l.past c.next_turn.ensures c.in-Comma.is in
    (l.invariant.0, λ y r u a. l.invariant.1 _ r T (next.comma u a))

pub overflow_add-at-in-Close : goal.overflow_add-at-in-Close
overflow_add-at-in-Close c =
    let l = c.loop-s in
    let st = c.args in
    let T = turn_is st.text.now l.at l.past c.next_turn.ensures c.in-Close.is in
    search rules

pub returns-then-depth-eq0 : goal.returns-then-depth-eq0
returns-then-depth-eq0 c =
    let l = c.loop-s in
    let st = c.args in
    let T = turn_is st.text.now l.at l.past c.next_turn.ensures c.in-Close.is in
    l.invariant.1 _ _ T (row_more c.if-depth-eq0.true c.row_ahead.ensures)

pub loop-s-smaller : goal.loop-s-smaller
loop-s-smaller c =
    let l = c.loop-s in
    let st = c.args in
    let T = turn_is st.text.now l.at l.past c.next_turn.ensures c.in-Close.is in
    omega (arith, T.leads.0, T.leads.1)

pub loop-s-preserved : goal.loop-s-preserved
loop-s-preserved c =
    let l = c.loop-s in
    let st = c.args in
    let T = turn_is st.text.now l.at l.past c.next_turn.ensures c.in-Close.is in
    (omega (arith, l.invariant.0), λ y r u a. l.invariant.1 _ r T (close_more _ _ c.if-depth-eq0.false u a))

pub returns-in-Stop : goal.returns-in-Stop
returns-in-Stop c =
    let l = c.loop-s in
    let st = c.args in
    l.invariant.1 _ _ (turn_is st.text.now l.at l.past c.next_turn.ensures c.in-Stop.is) next.stop

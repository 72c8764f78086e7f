use mathlib.Core.Bool.{false}
use Rattle.symbols.specs.Next as next
use Rattle.symbols.proofs.NextLaws.{end_is, head-is}
use borrow.Author.Rules.{rules}
use Rattle.symbols.proofs.row_end.Goals as goal

pub overflow_add-result : goal.overflow_add-result
overflow_add-result c =
    let st = c.args in
    let C = end_is st.text.now st.at c.fact_end.ensures c.in-Ok.is in
    let H = head-is st.text.now c.in-Ok.q false c.next_fact.ensures c.in-Open.is in
    search rules

pub returns-in-Open : goal.returns-in-Open
returns-in-Open c =
    let st = c.args in
    let C = end_is st.text.now st.at c.fact_end.ensures c.in-Ok.is in
    let H = head-is st.text.now c.in-Ok.q false c.next_fact.ensures c.in-Open.is in
    next.another C H

pub returns-in-End : goal.returns-in-End
returns-in-End c =
    let st = c.args in
    let C = end_is st.text.now st.at c.fact_end.ensures c.in-Ok.is in
    let H = head-is st.text.now c.in-Ok.q false c.next_fact.ensures c.in-End.is in
    next.no_more C H

pub returns-in-Stop : goal.returns-in-Stop
returns-in-Stop c =
    let st = c.args in
    let C = end_is st.text.now st.at c.fact_end.ensures c.in-Ok.is in
    let H = head-is st.text.now c.in-Ok.q false c.next_fact.ensures c.in-Stop.is in
    next.no-fact C H

pub returns-in-Err : goal.returns-in-Err
returns-in-Err c =
    let st = c.args in
    next.no_stop (end_is st.text.now st.at c.fact_end.ensures c.in-Err.is)

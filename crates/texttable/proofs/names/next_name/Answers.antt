use Rattle.texttable.proofs.NameLaws.{ahead-is, none_passed, name-met, variable-passed, number_passed, row-passed, no_name}
use native.Mathlib.Omega.{arith}
use Rattle.texttable.proofs.names.next_name.Goals as goal

pub loop-start-init : goal.loop-start-init
loop-start-init c = (omega arith, none_passed c.args.text.now c.args.from)

pub returns-in-Name : goal.returns-in-Name
returns-in-Name c =
    let l = c.loop-start in
    let st = c.args in
    let A = ahead-is st.text.now l.at c.next_item.ensures c.in-Name.is in
    name-met st.text.now st.from l.at l.invariant.1 l.invariant.0 c.in-Name.start c.in-Name.end c.in-Name.next A

pub loop-start-smaller-in-Variable : goal.loop-start-smaller-in-Variable
loop-start-smaller-in-Variable c =
    let l = c.loop-start in
    let st = c.args in
    let A = ahead-is st.text.now l.at c.next_item.ensures c.in-Variable.is in
    omega (arith, A.3.on, A.3.within)

pub loop-start-preserved-in-Variable : goal.loop-start-preserved-in-Variable
loop-start-preserved-in-Variable c =
    let l = c.loop-start in
    let st = c.args in
    let A = ahead-is st.text.now l.at c.next_item.ensures c.in-Variable.is in
    (omega (arith, l.invariant.0, A.3.on), variable-passed st.text.now st.from l.at l.invariant.1 l.invariant.0 c.in-Variable.field-0 c.in-Variable.field-1 c.in-Variable.to A)

pub loop-start-smaller-in-Number : goal.loop-start-smaller-in-Number
loop-start-smaller-in-Number c =
    let l = c.loop-start in
    let st = c.args in
    let A = ahead-is st.text.now l.at c.next_item.ensures c.in-Number.is in
    omega (arith, A.1.on, A.1.within)

pub loop-start-preserved-in-Number : goal.loop-start-preserved-in-Number
loop-start-preserved-in-Number c =
    let l = c.loop-start in
    let st = c.args in
    let A = ahead-is st.text.now l.at c.next_item.ensures c.in-Number.is in
    (omega (arith, l.invariant.0, A.1.on), number_passed st.text.now st.from l.at l.invariant.1 l.invariant.0 c.in-Number.field-0 c.in-Number.to A)

pub loop-start-smaller : goal.loop-start-smaller
loop-start-smaller c =
    let l = c.loop-start in
    let st = c.args in
    let A = ahead-is st.text.now l.at c.next_item.ensures c.in-Row.is in
    omega (arith, A.on, A.within)

pub loop-start-preserved : goal.loop-start-preserved
loop-start-preserved c =
    let l = c.loop-start in
    let st = c.args in
    let A = ahead-is st.text.now l.at c.next_item.ensures c.in-Row.is in
    (omega (arith, l.invariant.0, A.on), row-passed st.text.now st.from l.at l.invariant.1 l.invariant.0 c.in-Row.to A)

pub returns-in-End : goal.returns-in-End
returns-in-End c =
    let l = c.loop-start in
    let st = c.args in
    no_name st.text.now st.from l.at l.invariant.1 l.invariant.0
    (ahead-is st.text.now l.at c.next_item.ensures c.in-End.is)

use Rattle.std.proofs.Common.{◌≡◌, ◌<◌, length, sym, ◌∙◌, arith}
use mathlib.Core.Logic.{by_cases}
use native.Mathlib.Decide.{dec_lt}
use Rattle.state.proofs.ColumnLaws.{length_none, length-first, follow-all, follow-break, follow-more}
use Rattle.state.proofs.column.run_length.Goals as goal

pub loop-n-init : goal.loop-n-init
loop-n-init c = λ h. length-first c.args.column.now h

pub returns-then-not-same_symbol : goal.returns-then-not-same_symbol
returns-then-not-same_symbol c =
    let cs = c.args.column.now in
    let l = c.loop-n in
    let e = sym c.same_symbol.ensures ∙ c.if-not-same_symbol.true in
    omega (arith, l.invariant (omega arith), follow-break cs l.n (omega arith) e)

pub loop-n-preserved : goal.loop-n-preserved
loop-n-preserved c =
    let cs = c.args.column.now in
    let l = c.loop-n in
    let e = sym c.same_symbol.ensures ∙ c.if-not-same_symbol.false in
    λ h. omega (arith, l.invariant h, follow-more cs l.n (omega arith) e)

pub returns : goal.returns
returns c =
    let cs = c.args.column.now in
    let l = c.loop-n in
    by_cases (dec_lt 0 (length cs))
    (λ (h : 0 < length cs). omega (arith, l.invariant h, follow-all cs l.n (omega arith)))
    (λ h. omega (arith, length_none cs (omega arith)))

use mathlib.Core.Logic.{⊎_elim}
use native.Mathlib.Omega.{arith}
use borrow.Author.Tests.{ltb-false}
use Rattle.lex.proofs.FactLaws.{first-fact, later-fact, no-layout, no-facts, all-facts}
use Rattle.lex.proofs.fact.next_fact.Goals as goal

pub returns-then-first : goal.returns-then-first
returns-then-first c =
    let a = c.args in
    let g = c.gap_end-p in
    let h = c.head_at in
    ⊎_elim (λ x. first-fact a.text.now a.at g.result g.ensures h.result h.ensures (omega arith) x)
    (λ x. later-fact a.text.now a.at g.result g.ensures h.result h.ensures (omega arith) x.0 x.1)
    c.then-first.either

pub returns-then-p-text : goal.returns-then-p-text
returns-then-p-text c =
    let g = c.gap_end-p in
    no-layout c.args.text.now c.args.at g.result g.ensures (omega arith) c.if-first.false (ltb-false _ _ c.if-at-p.false-raw)

pub returns-then-first-2 : goal.returns-then-first-2
returns-then-first-2 c =
    let g = c.gap_end-p in
    no-facts c.args.text.now c.args.at g.result g.ensures (omega arith) c.if-first-2.true

pub returns : goal.returns
returns c =
    let g = c.gap_end-p in
    all-facts c.args.text.now c.args.at g.result g.ensures (omega arith) c.if-first-2.false

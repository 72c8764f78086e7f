use mathlib.Core.Path.{sym, subst}
use mathlib.Core.Bool.{Bool, true, false}
use Rattle.lex.specs.Turns.{Turns}
use Rattle.lex.proofs.TurnLaws.{turns-on}
use Rattle.lex.proofs.turn.next_turn.Goals as goal

pub returns-then-past : goal.returns-then-past
returns-then-past c =
    let a = c.args in
    let g = c.gap_end-p in
    subst (λ (b : Bool). Turns a.text.now a.at b c.mark_at.result) (sym c.if-past.true)
    (turns-on a.text.now a.at g.result true c.mark_at.result g.ensures c.mark_at.ensures)

pub returns-else-past : goal.returns-else-past
returns-else-past c =
    let a = c.args in
    let g = c.gap_end-p in
    subst (λ (b : Bool). Turns a.text.now a.at b c.term_at.result) (sym c.if-past.false)
    (turns-on a.text.now a.at g.result false c.term_at.result g.ensures c.term_at.ensures)

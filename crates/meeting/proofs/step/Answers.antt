-- `step` meets its contract: the same cell, a variable of the row, a variable of the goal. There is no other case.
use Prim.Native.Nat.{◌<◌}
use mathlib.Core.Path.{refl, sym, ◌∙◌}
use native.Mathlib.Omega.{arith}
use Rattle.cell.proofs.CellLaws.{is-var, not-var}
use Rattle.instance.proofs.MeetSteps.{goal-left, row-cell, goal-cell, same-there}
use Rattle.meeting.specs.code.Turns.{stepped-over}
use Rattle.meeting.proofs.TurnLaws.{stepped_same}
use Rattle.meeting.proofs.step.Goals as goal

pub returns-then-k-at : goal.returns-then-k-at
returns-then-k-at c =
    let s = c.requires in
    stepped-over (λ y row goal w. absurd (let z : ⊥ = omega (arith, goal-left w s.more, c.if-k-at.true) in z))

pub returns-then-c-d : goal.returns-then-c-d
returns-then-c-d c =
    let s = c.requires in
    let g : c.args.k.at < c.args.k.len = omega (arith, c.if-k-at.false) in
    stepped_same s.sound s.more g
    (λ row goal w. same-there w s.more (row-cell w s.more ∙ c.if-c-d.true ∙ sym (goal-cell w s.more)))

pub bind_row-requires : goal.bind_row-requires
bind_row-requires c =
    (c.requires, refl, is-var _ (sym c.kind.ensures ∙ c.if-kind-eq0.true), c.if-c-d.false)

pub bind_goal-requires : goal.bind_goal-requires
bind_goal-requires c = (
  c.requires,
  omega (arith, c.if-k-at.false),
  refl,
  not-var _ (λ z. c.if-kind-eq0.false (c.kind.ensures ∙ z)),
  λ z. c.if-c-d.false (sym z),
)

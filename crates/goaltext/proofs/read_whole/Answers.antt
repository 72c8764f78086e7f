use mathlib.Core.Path.{sym, subst}
use lib.Seq.{length-take-le}
use Rattle.goaltext.specs.code.Steps.{OursIs}
use Rattle.goaltext.proofs.AskedLaws.{made-are, long-are, turned-are, made-two, made_row, made-names, goal-reads, long-reads}
use Rattle.goaltext.proofs.AskedLaws.{other-reads, refused-reads}
use Rattle.goaltext.proofs.read_whole.Goals as goal

pub slice_bounds-put_goal-count : goal.slice_bounds-put_goal-count
slice_bounds-put_goal-count c = made-two (made-are (rw c.in-Ok-Made.field-0-is at c.in-Ok-Made.ensures))

pub slice_bounds-put_goal-start : goal.slice_bounds-put_goal-start
slice_bounds-put_goal-start c = made-two (made-are (rw c.in-Ok-Made.field-0-is at c.in-Ok-Made.ensures))

pub slice_bounds-put_goal-end : goal.slice_bounds-put_goal-end
slice_bounds-put_goal-end c = (made-are (rw c.in-Ok-Made.field-0-is at c.in-Ok-Made.ensures)).within.0

pub slice_bounds-list-end : goal.slice_bounds-list-end
slice_bounds-list-end c = (made-are (rw c.in-Ok-Made.field-0-is at c.in-Ok-Made.ensures)).within.1

pub slice_bounds-put_goal-end-then-is_ours : goal.slice_bounds-put_goal-end-then-is_ours
slice_bounds-put_goal-end-then-is_ours c =
    let m = made-are (rw c.in-Ok-Made.field-0-is at c.in-Ok-Made.ensures) in sym (length-take-le _ _ m.within.1)

pub put_goal-requires : goal.put_goal-requires
put_goal-requires c =
    (c.requires.0, made-names (made-are (rw c.in-Ok-Made.field-0-is at c.in-Ok-Made.ensures)))

pub returns-then-is_ours : goal.returns-then-is_ours
returns-then-is_ours c = λ t fs w short.
    let a = c.args in
    let F = made-are (rw c.in-Ok-Made.field-0-is at c.in-Ok-Made.ensures) in
    let S = subst (OursIs a.text.now a.p a.whole.now _ c.in-Ok-Made.c)
    c.if-is_ours.true c.is_ours.ensures in
    goal-reads a.text.now a.names.now a.p t a.whole.now c.requires.1 short
    c.first_name-s.ensures F.counts
    c.requires.0 w S (made_row F) F.names c.put_goal.ensures

pub returns-then-is_ours-2 : goal.returns-then-is_ours-2
returns-then-is_ours-2 c = λ t fs w short.
    let a = c.args in
    let F = long-are (rw c.in-Ok-Long.field-0-is at c.in-Ok-Long.ensures) in
    let S = subst (OursIs a.text.now a.p a.whole.now _ c.in-Ok-Long.c) c.if-is_ours-2.true c.is_ours-in-Ok-Long.ensures in
    long-reads a.text.now a.names.now a.p t a.whole.now c.requires.1 short
    c.first_name-s.ensures F.0
    c.requires.0 w S F.1 c.refuse-then-is_ours-2.ensures

pub returns-else-is_ours : goal.returns-else-is_ours
returns-else-is_ours c = λ t fs w short.
    let a = c.args in
    let n = subst (OursIs a.text.now a.p a.whole.now _ c.in-Ok-Made.c) c.if-is_ours.false c.is_ours.ensures in
    other-reads a.text.now a.names.now a.p t a.whole.now c.requires.1 short
    c.first_name-s.ensures
    w (made-are (rw c.in-Ok-Made.field-0-is at c.in-Ok-Made.ensures)).counts n c.refuse.ensures

pub returns-else-is_ours-2 : goal.returns-else-is_ours-2
returns-else-is_ours-2 c = λ t fs w short.
    let a = c.args in
    let F = long-are (rw c.in-Ok-Long.field-0-is at c.in-Ok-Long.ensures) in
    let n = subst (OursIs a.text.now a.p a.whole.now _ c.in-Ok-Long.c) c.if-is_ours-2.false c.is_ours-in-Ok-Long.ensures in
    other-reads a.text.now a.names.now a.p t a.whole.now c.requires.1 short
    c.first_name-s.ensures
    w F.0 n c.refuse-in-Ok-Long.ensures

pub returns-in-Err : goal.returns-in-Err
returns-in-Err c = λ t fs w short.
    let a = c.args in
    refused-reads a.text.now a.names.now a.p t a.whole.now c.requires.1 short
    c.first_name-s.ensures _ w
    (turned-are _ c.in-Err.ensures) c.refuse-in-Err.ensures

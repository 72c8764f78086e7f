-- `bind_goal` meets its contract.
use Prim.Native.Nat.{◌-◌, ◌≤◌, ◌<◌}
use mathlib.Core.Path.{refl, sym}
use native.Mathlib.Omega.{arith}
use lib.ListN.{length, take, drop}
use lib.Seq.{length-take-le}
use Rattle.instance.specs.code.Meet.{TermAt}
use Rattle.instance.proofs.MeetSteps.{row-term, term-there, second-bind}
use Rattle.meeting.specs.code.Turns.{stepped-over}
use Rattle.meeting.proofs.TermLaws.{term-at, cell_at}
use Rattle.meeting.proofs.TurnLaws.{bound-stepped, goal-sound}
use Rattle.meeting.proofs.bind_goal.Goals as goal
use Rattle.meeting.proofs.bind_goal.Goals.{Start, In_ok-e}

-- the row is in the list
inside : (c : Start) → c.args.k.n ≤ length c.args.cells.now
inside c = c.requires.0.sound.held

-- the term that the variable meets
found : (c : In_ok-e) → let n = c.args.k.n in let a = c.args.k.i in let e = c.in_ok-e.e in let cells = c.args.cells.now in
    (a ≤ e) × (e ≤ n) × TermAt (take n cells) (take (e - a) (drop a cells)) a e
found c = term-at _ c.requires.0.sound.held c.term_end.ensures c.in_ok-e.was

pub slice_bounds-term_end-end-2 : goal.slice_bounds-term_end-end-2
slice_bounds-term_end-end-2 c = sym (length-take-le _ _ (inside (goal.at.slice_bounds-term_end-end-2 c).Start))

pub bind_cell-requires : goal.bind_cell-requires
bind_cell-requires c =
    let p = c.requires in let x = found (goal.at.bind_cell-requires c).In_ok-e in goal-sound p.0.sound p.1 x.0 x.1

pub returns-then-e-i : goal.returns-then-e-i
returns-then-e-i c =
    let p = c.requires in
    let x = found (goal.at.returns-then-e-i c).In_ok-e in
    let h : c.args.k.i < length c.args.cells.now = omega (arith, x.1, inside (goal.at.returns-then-e-i c).Start, c.if-e-i.true) in
    let y = cell_at c.args.cells.now c.args.k.n c.if-e-i.true h x.2 in
    bound-stepped p.0.lists.most refl
    (λ row goal w.
    let f = second-bind w p.0.more p.2 p.3 p.4 y in
    (f.0, record { after = f.2; goal-short = w.goal-short; row-short = omega (arith, w.row-short, x.0) })) c.bind_cell.ensures

pub bind-requires : goal.bind-requires
bind-requires c =
    let p = c.requires in
    let x = found (goal.at.bind-requires c).In_ok-e in
    record { lists = p.0.lists; sound = goal-sound p.0.sound p.1 x.0 x.1; begun = x.0; ended = omega (arith, x.1, p.0.sound.held) }

pub returns : goal.returns
returns c =
    let p = c.requires in
    let x = found (goal.at.returns c).In_ok-e in
    bound-stepped p.0.lists.most refl
    (λ row goal w.
    let f = second-bind w p.0.more p.2 p.3 p.4 x.2 in
    (f.0, record { after = f.2; goal-short = w.goal-short; row-short = omega (arith, w.row-short, x.0) })) c.bind.ensures

pub returns-in_err-e : goal.returns-in_err-e
returns-in_err-e c =
    let p = c.requires.0 in
    rw c.from_residual.ensures (stepped-over (λ y row goal w. absurd (term-there (row-term w p.more).0 c.term_end.ensures c.in_err-e.was)))

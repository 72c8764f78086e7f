-- `bind_row` meets its contract.
use Prim.Native.Nat.{◌-◌, ◌≤◌, ◌<◌}
use mathlib.Core.Path.{refl, sym}
use native.Mathlib.Omega.{arith}
use lib.ListN.{length, take, drop}
use lib.Seq.{length-take-le}
use Rattle.instance.specs.code.Meet.{TermAt}
use Rattle.instance.proofs.MeetSteps.{goal-term, term-there, first-bind}
use Rattle.meeting.specs.code.Turns.{stepped-over}
use Rattle.meeting.proofs.TermLaws.{term-at, cell_at}
use Rattle.meeting.proofs.TurnLaws.{bound-stepped, row-sound}
use Rattle.meeting.proofs.bind_row.Goals as goal
use Rattle.meeting.proofs.bind_row.Goals.{Start, In_ok-e}

-- the goal so far is in the list
inside : (c : Start) → c.args.k.len ≤ length c.args.cells.now
inside c = let s = c.requires.0.sound in omega (arith, s.apart, s.started, s.held)

-- the term that the variable meets
found : (c : In_ok-e) → let n = c.args.k.len in let a = c.args.k.at in let e = c.in_ok-e.e in let cells = c.args.cells.now in
    (a ≤ e) × (e ≤ n) × TermAt (take n cells) (take (e - a) (drop a cells)) a e
found c = let s = c.requires.0.sound in term-at _ (omega (arith, s.apart, s.started, s.held)) c.term_end.ensures c.in_ok-e.was

pub slice_bounds-term_end-end-2 : goal.slice_bounds-term_end-end-2
slice_bounds-term_end-end-2 c = sym (length-take-le _ _ (inside (goal.at.slice_bounds-term_end-end-2 c).Start))

pub bind_cell-requires : goal.bind_cell-requires
bind_cell-requires c =
    let p = c.requires.0 in row-sound p.sound p.more (found (goal.at.bind_cell-requires c).In_ok-e).1

pub returns-then-e-at : goal.returns-then-e-at
returns-then-e-at c =
    let p = c.requires in
    let x = found (goal.at.returns-then-e-at c).In_ok-e in
    let h : c.args.k.at < length c.args.cells.now = omega (arith, x.1, inside (goal.at.returns-then-e-at c).Start, c.if-e-at.true) in
    let y = cell_at c.args.cells.now c.args.k.len c.if-e-at.true h x.2 in
    bound-stepped p.0.lists.most refl
    (λ row goal w.
    let f = first-bind w p.0.more p.1 p.2 p.3 y in
    (f.0, record { after = f.2; goal-short = w.goal-short; row-short = omega (arith, w.row-short) })) c.bind_cell.ensures

pub bind-requires : goal.bind-requires
bind-requires c =
    let p = c.requires.0 in
    let x = found (goal.at.bind-requires c).In_ok-e in
    record {
      lists = p.lists;
      sound = row-sound p.sound p.more x.1;
      begun = x.0;
      ended = omega (arith, x.1, p.sound.apart, p.sound.started, p.sound.held);
    }

pub returns : goal.returns
returns c =
    let p = c.requires in
    let x = found (goal.at.returns c).In_ok-e in
    bound-stepped p.0.lists.most refl
    (λ row goal w.
    let f = first-bind w p.0.more p.1 p.2 p.3 x.2 in
    (f.0, record { after = f.2; goal-short = w.goal-short; row-short = omega (arith, w.row-short) })) c.bind.ensures

pub returns-in_err-e : goal.returns-in_err-e
returns-in_err-e c =
    let p = c.requires.0 in
    rw c.from_residual.ensures (stepped-over (λ y row goal w. absurd (term-there (goal-term w p.more).0 c.term_end.ensures c.in_err-e.was)))

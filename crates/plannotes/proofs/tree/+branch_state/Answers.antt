use Rattle.std.proofs.Common.{◌≡◌, ℕ, ◌+◌, ◌-◌, arith, length, get_or, sym, ap, ◌∙◌, subst, ◌<◌}
use Rattle.plannotes.specs.code.Tree.{Ready, ReadyAt, Went}
use Rattle.plannotes.proofs.TreeLaws.{state-bounds, branch-bounds, leaf-read, leaf-done, inside, met, arity-is, Rest, all_left, none_left}
use Rattle.plannotes.proofs.TreeLaws.{first-left, branch-falls, state-falls}
use Rattle.plannotes.proofs.ChainLaws.{under, went, ending, branch-done}
use Rattle.plannotes.proofs.tree.+branch_state.Goals as goal

pub branch-begin-a-requires : goal.branch-begin-a-requires
branch-begin-a-requires t c = met c.requires

pub branch-overflow_add-under-2 : goal.branch-overflow_add-under-2
branch-overflow_add-under-2 t c =
    omega (arith, branch-bounds c.requires, arity-is c.requires (c.begin-a.ensures (met c.requires)))

pub branch-overflow_add-under-4 : goal.branch-overflow_add-under-4
branch-overflow_add-under-4 t c =
    omega (arith, branch-bounds c.requires, arity-is c.requires (c.begin-a.ensures (met c.requires)))

pub branch-follow-lower-requires : goal.branch-follow-lower-requires
branch-follow-lower-requires t c = under c.requires (c.begin-a.ensures (met c.requires))

pub branch-state-below-requires : goal.branch-state-below-requires
branch-state-below-requires t c =
    let w = c.requires in
    let g = went w (c.begin-a.ensures (met w)) c.follow-lower.ensures.noted in
    (state-falls t (length c.args.plan.now) c.args.here.place c.follow-lower.result.at c.decreases g.later, rw c.follow-lower.ensures.row g.lower)

pub branch-finish-requires : goal.branch-finish-requires
branch-finish-requires t c =
    let w = c.requires in
    let x = c.begin-a.ensures (met w) in
    ending w x c.follow-lower.ensures.noted ((rw c.follow-lower.ensures.row at c.state-below.ensures) (went w x c.follow-lower.ensures.noted).lower)

pub branch-returns : goal.branch-returns
branch-returns t c = λ w.
    (let x = c.begin-a.ensures (met w) in
    branch-done w x c.follow-lower.ensures.noted ((rw c.follow-lower.ensures.row at c.state-below.ensures) (went w x c.follow-lower.ensures.noted).lower) c.finish.ensures)

pub state-offset_bounds-plan-here : goal.state-offset_bounds-plan-here
state-offset_bounds-plan-here t c = omega (arith, state-bounds c.requires)

pub state-bounds-plan-here : goal.state-bounds-plan-here
state-bounds-plan-here t c = (state-bounds c.requires).0

pub state-overflow_add-first : goal.state-overflow_add-first
state-overflow_add-first t c = omega (arith, state-bounds c.requires)

pub state-overflow_add-result : goal.state-overflow_add-result
state-overflow_add-result t c = let w = c.requires in omega (arith, leaf-read w (omega arith), w.few)

pub state-returns-then-here-eq0 : goal.state-returns-then-here-eq0
state-returns-then-here-eq0 t c = λ w. leaf-done w (omega arith)

pub state-overflow_add-next : goal.state-overflow_add-next
state-overflow_add-next t c = omega (arith, state-bounds c.requires)

pub state-offset_bounds-plan-first : goal.state-offset_bounds-plan-first
state-offset_bounds-plan-first t c = omega (arith, state-bounds c.requires)

pub state-bounds-plan-first : goal.state-bounds-plan-first
state-bounds-plan-first t c = (inside c.requires (omega arith)).reads

pub state-loop-init : goal.state-loop-init
state-loop-init t c = λ w.
    (let n : get_or c.args.plan.now (c.args.here.at + 1) 0 ≡ get_or c.args.plan.now (c.args.here.at + 1) 0 - 0 = omega arith in
    subst (λ (left : ℕ). Rest w c.args.notes.now (record { place = c.args.here.at + 2; made = c.args.here.made; row = c.args.here.row }) left) n
    (all_left w (omega arith)))

pub state-branch-next-requires : goal.state-branch-next-requires
state-branch-next-requires t c =
    let r = c.loop.invariant c.requires in (
      branch-falls t (length c.args.plan.now) c.args.here.at c.loop.next.place c.decreases (state-bounds c.requires).0 r.rest.later,
      (first-left c.requires r (omega arith)).one,
    )

pub state-loop-preserved : goal.state-loop-preserved
state-loop-preserved t c = λ w.
    (let left : ℕ = get_or c.args.plan.now (c.args.here.at + 1) 0 - c.loop.counter in
    let n : left - 1 ≡ get_or c.args.plan.now (c.args.here.at + 1) 0 - (c.loop.counter + 1) = omega arith in
    let f = first-left w (c.loop.invariant w) (omega arith) in
    let b = c.branch-next in
    rw n at (f.others _ b.result (b.ensures f.one)))

pub state-returns : goal.state-returns
state-returns t c = λ w. none_left w (c.loop.invariant w) (omega arith)

use Rattle.std.proofs.Common.{arith, sym, ◌∙◌, refl}
use Rattle.plannotes.proofs.TreeLaws.{state-bounds, branch-bounds, inside, met, arity-is}
use Rattle.plannotes.proofs.ChainLaws.{single-is, only, stopped, went-none, went_on}
use Rattle.plannotes.proofs.tree.follow.Goals as goal

pub loop-start-init : goal.loop-start-init
loop-start-init c = record { went = λ w. went-none w; row = refl }

pub single-requires : goal.single-requires
single-requires c =
    let r = (c.loop-start.invariant.went c.requires).lower in
    (omega (arith, state-bounds r), λ l. (inside r l).reads)

pub begin-a-requires : goal.begin-a-requires
begin-a-requires c =
    let s = single-is _ _ _ c.single.ensures c.loop-start-test.true in
    met (only (c.loop-start.invariant.went c.requires).lower s.0 s.1).one

pub overflow_add-here-in-loop-start : goal.overflow_add-here-in-loop-start
overflow_add-here-in-loop-start c =
    let s = single-is _ _ _ c.single.ensures c.loop-start-test.true in
    let x = (only (c.loop-start.invariant.went c.requires).lower s.0 s.1).one in
    omega (arith, branch-bounds x, arity-is x (c.begin-a.ensures (met x)))

pub overflow_add-here-in-loop-start-2 : goal.overflow_add-here-in-loop-start-2
overflow_add-here-in-loop-start-2 c = omega (arith, state-bounds (c.loop-start.invariant.went c.requires).lower)

pub overflow_add-here-in-loop-start-3 : goal.overflow_add-here-in-loop-start-3
overflow_add-here-in-loop-start-3 c =
    let s = single-is _ _ _ c.single.ensures c.loop-start-test.true in
    let x = (only (c.loop-start.invariant.went c.requires).lower s.0 s.1).one in
    omega (arith, branch-bounds x, arity-is x (c.begin-a.ensures (met x)))

pub loop-start-preserved : goal.loop-start-preserved
loop-start-preserved c =
    let s = single-is _ _ _ c.single.ensures c.loop-start-test.true in
    record { went = λ w. went_on w (c.loop-start.invariant.went w) s.0 s.1 c.begin-a.ensures; row = refl }

pub returns-clause-noted : goal.returns-clause-noted
returns-clause-noted c = λ w.
    (let g = c.loop-start.invariant.went w in
    record { went = g; ends = stopped g.lower (sym c.single.ensures ∙ c.loop-start-test.false) })

use mathlib.Core.Path.{refl}
use native.Mathlib.Omega.{arith}
use Rattle.octets.proofs.PutLaws.{put-length}
use Rattle.unfolding.proofs.OwnLaws.{own-inside, own-begins, own-ends, own-goes}
use Rattle.unfolding.proofs.own.put_own.Goals as goal

pub offset_bounds-plan-at : goal.offset_bounds-plan-at
offset_bounds-plan-at c = let h = own-inside c.requires.0 c.requires.1 in omega (arith, h)

pub bounds-plan-at : goal.bounds-plan-at
bounds-plan-at c = let h = own-inside c.requires.0 c.requires.1 in omega (arith, h.0)

pub overflow_cast-index : goal.overflow_cast-index
overflow_cast-index c = let h = own-inside c.requires.0 c.requires.1 in omega (arith, h.0, h.1, h.2, h.3)

pub overflow_add-branches : goal.overflow_add-branches
overflow_add-branches c = let h = own-inside c.requires.0 c.requires.1 in omega (arith, h)

pub offset_bounds-plan-at-2 : goal.offset_bounds-plan-at-2
offset_bounds-plan-at-2 c = let h = own-inside c.requires.0 c.requires.1 in omega (arith, h)

pub bounds-plan-at-2 : goal.bounds-plan-at-2
bounds-plan-at-2 c = (own-inside c.requires.0 c.requires.1).0

pub overflow_add-p : goal.overflow_add-p
overflow_add-p c = let h = own-inside c.requires.0 c.requires.1 in omega (arith, h)

pub loop-init : goal.loop-init
loop-init c = λ w. own-begins w _ _ c.requires.1 (omega arith) (omega arith)

pub offset_bounds-plan-p : goal.offset_bounds-plan-p
offset_bounds-plan-p c = let g = (own-goes (c.loop.invariant c.requires.0) _ (omega arith) c.requires.2 refl) in omega (arith, g.here, g.size)

pub bounds-plan-p : goal.bounds-plan-p
bounds-plan-p c = let g = (own-goes (c.loop.invariant c.requires.0) _ (omega arith) c.requires.2 refl) in omega (arith, g.here)

pub overflow_add-wider : goal.overflow_add-wider
overflow_add-wider c = let g = (own-goes (c.loop.invariant c.requires.0) _ (omega arith) c.requires.2 c.arity_of.ensures) in omega (arith, g.few-args, g.wide, g.here, g.size)

pub overflow_sub-wider : goal.overflow_sub-wider
overflow_sub-wider c = let g = (own-goes (c.loop.invariant c.requires.0) _ (omega arith) c.requires.2 c.arity_of.ensures) in omega (arith, g.inner)

pub overflow_add-p-in-loop : goal.overflow_add-p-in-loop
overflow_add-p-in-loop c = let g = (own-goes (c.loop.invariant c.requires.0) _ (omega arith) c.requires.2 c.arity_of.ensures) in omega (arith, g.here, g.size)

pub past_state-end-requires : goal.past_state-end-requires
past_state-end-requires c = ((own-goes (c.loop.invariant c.requires.0) _ (omega arith) c.requires.2 c.arity_of.ensures)).below

pub put_branch-on-requires : goal.put_branch-on-requires
put_branch-on-requires c = ((own-goes (c.loop.invariant c.requires.0) _ (omega arith) c.requires.2 c.arity_of.ensures)).branch

pub overflow_add-called : goal.overflow_add-called
overflow_add-called c = let g = (own-goes (c.loop.invariant c.requires.0) _ (omega arith) c.requires.2 c.arity_of.ensures) in omega (arith, g.fits (c.past_state-end.ensures g.below))

pub loop-preserved : goal.loop-preserved
loop-preserved c =
    λ w.
    let g = (own-goes (c.loop.invariant w) _ (omega arith) c.requires.2 c.arity_of.ensures) in
    g.beside (omega arith) (c.past_state-end.ensures g.below) (c.put_branch-on.ensures g.branch)

pub shape_of-program : goal.shape_of-program
shape_of-program c = put-length (own-ends (c.loop.invariant c.requires.0) (omega arith))

pub returns : goal.returns
returns c = λ w. own-ends (c.loop.invariant w) (omega arith)

pub overflow_add-next : goal.overflow_add-next
overflow_add-next c = let h = own-inside c.requires.0 c.requires.1 in omega (arith, h)

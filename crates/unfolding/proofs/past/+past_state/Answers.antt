use mathlib.Core.Path.{refl}
use native.Mathlib.Omega.{arith}
use Rattle.unfolding.proofs.PastLaws.{leaf-inside, leaf-past, enters-inside, enters, none_left, goes}
use Rattle.unfolding.proofs.past.+past_state.Goals as goal

pub overflow_add-result : goal.overflow_add-result
overflow_add-result t c = let w = c.requires in let h = leaf-inside w (omega arith) in omega (arith, w.size)

pub returns-then-places-eq0 : goal.returns-then-places-eq0
returns-then-places-eq0 t c = λ w. leaf-past w (omega arith)

pub overflow_add-branches : goal.overflow_add-branches
overflow_add-branches t c = let w = c.requires in let h = enters-inside w (omega arith) in omega arith

pub offset_bounds-plan-at : goal.offset_bounds-plan-at
offset_bounds-plan-at t c = let w = c.requires in let h = enters-inside w (omega arith) in omega arith

pub bounds-plan-at : goal.bounds-plan-at
bounds-plan-at t c = let w = c.requires in let h = enters-inside w (omega arith) in omega arith

pub overflow_add-here : goal.overflow_add-here
overflow_add-here t c = let w = c.requires in let h = enters-inside w (omega arith) in omega arith

pub loop-init : goal.loop-init
loop-init t c = λ w. enters w (omega arith) c.split.ensures (omega arith)

pub offset_bounds-plan-p : goal.offset_bounds-plan-p
offset_bounds-plan-p t c = let g = (goes (c.loop.invariant c.requires) _ (omega arith) refl) in omega arith

pub bounds-plan-p : goal.bounds-plan-p
bounds-plan-p t c = let g = (goes (c.loop.invariant c.requires) _ (omega arith) refl) in omega arith

pub overflow_add-wider : goal.overflow_add-wider
overflow_add-wider t c = let g = (goes (c.loop.invariant c.requires) _ (omega arith) c.arity_of.ensures) in omega arith

pub overflow_sub-wider : goal.overflow_sub-wider
overflow_sub-wider t c = let g = (goes (c.loop.invariant c.requires) _ (omega arith) c.arity_of.ensures) in omega arith

pub overflow_add-p : goal.overflow_add-p
overflow_add-p t c = let g = (goes (c.loop.invariant c.requires) _ (omega arith) c.arity_of.ensures) in omega arith

pub past_state-below-requires : goal.past_state-below-requires
past_state-below-requires t c = let g = (goes (c.loop.invariant c.requires) _ (omega arith) c.arity_of.ensures) in (omega (arith, g), g.below)

pub overflow_add-here-in-loop : goal.overflow_add-here-in-loop
overflow_add-here-in-loop t c = let g = (goes (c.loop.invariant c.requires) _ (omega arith) c.arity_of.ensures) in omega (arith, g.fits (c.past_state-below.ensures g.below))

pub loop-preserved : goal.loop-preserved
loop-preserved t c =
    λ w.
    let l = c.loop in
    let g = goes (l.invariant w) c.arity_of.result (omega arith) c.arity_of.ensures in
    g.beside (omega arith) (c.past_state-below.ensures g.below)

pub returns : goal.returns
returns t c = λ w. none_left w (c.loop.invariant w) (omega arith)

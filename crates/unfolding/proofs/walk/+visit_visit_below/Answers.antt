use mathlib.Core.Path.{refl}
use native.Mathlib.Omega.{arith}
use Rattle.octets.proofs.PutLaws.{put-length}
use Rattle.unfolding.proofs.PastLaws.{leaf-inside, enters-inside}
use Rattle.unfolding.proofs.VisitLaws.{leaf-visits, one-visits, several-visits, below-enters, below-done, goes_on}
use Rattle.unfolding.proofs.walk.+visit_visit_below.Goals as goal

pub visit-overflow_add-result : goal.visit-overflow_add-result
visit-overflow_add-result t c = let w = c.requires.0 in let h = leaf-inside w.stands (omega arith) in omega (arith, w.stands.size)

pub visit-returns-then-places-eq0 : goal.visit-returns-then-places-eq0
visit-returns-then-places-eq0 t c = λ w. leaf-visits w (omega arith)

pub visit-overflow_add-at : goal.visit-overflow_add-at
visit-overflow_add-at t c = let w = c.requires.0.stands in let h = enters-inside w (omega arith) in omega arith

pub visit-offset_bounds-plan-at : goal.visit-offset_bounds-plan-at
visit-offset_bounds-plan-at t c = let w = c.requires.0.stands in let h = enters-inside w (omega arith) in omega arith

pub visit-bounds-plan-at : goal.visit-bounds-plan-at
visit-bounds-plan-at t c = let w = c.requires.0.stands in let h = enters-inside w (omega arith) in omega arith

pub visit-visit_below-requires : goal.visit-visit_below-requires
visit-visit_below-requires t c = (omega arith, (c.requires.0, omega arith, omega arith))

pub visit-returns-then-plan-at-eq1 : goal.visit-returns-then-plan-at-eq1
visit-returns-then-plan-at-eq1 t c = λ w. one-visits w (omega arith) (omega arith) (c.visit_below.ensures w)

pub visit-overflow_add-next : goal.visit-overflow_add-next
visit-overflow_add-next t c = let w = c.requires.0.stands in let h = enters-inside w (omega arith) in omega arith

pub visit-put_own-to-requires : goal.visit-put_own-to-requires
visit-put_own-to-requires t c = (c.requires.0, omega arith, omega arith)

pub visit-visit_below-requires-2 : goal.visit-visit_below-requires-2
visit-visit_below-requires-2 t c =
    (omega arith, (c.requires.0, omega arith, omega arith))

pub visit-returns : goal.visit-returns
visit-returns t c =
    λ w.
    several-visits w (omega arith) (c.put_own-to.ensures w) (c.visit_below-2.ensures w) (omega arith) (λ e. omega arith)

pub visit_below-overflow_add-branches : goal.visit_below-overflow_add-branches
visit_below-overflow_add-branches t c = let w = c.requires.0.stands in let h = enters-inside w c.requires.1 in omega arith

pub visit_below-offset_bounds-plan-first : goal.visit_below-offset_bounds-plan-first
visit_below-offset_bounds-plan-first t c = let w = c.requires.0.stands in let h = enters-inside w c.requires.1 in omega arith

pub visit_below-bounds-plan-first : goal.visit_below-bounds-plan-first
visit_below-bounds-plan-first t c = let w = c.requires.0.stands in let h = enters-inside w c.requires.1 in omega arith

pub visit_below-overflow_add-here : goal.visit_below-overflow_add-here
visit_below-overflow_add-here t c = let w = c.requires.0.stands in let h = enters-inside w c.requires.1 in omega arith

pub visit_below-loop-init : goal.visit_below-loop-init
visit_below-loop-init t c = λ w. below-enters w (omega arith) (omega arith)

pub visit_below-offset_bounds-plan-p : goal.visit_below-offset_bounds-plan-p
visit_below-offset_bounds-plan-p t c = let g = (goes_on (c.loop.invariant c.requires.0) _ (omega arith) refl) in omega arith

pub visit_below-bounds-plan-p : goal.visit_below-bounds-plan-p
visit_below-bounds-plan-p t c = let g = (goes_on (c.loop.invariant c.requires.0) _ (omega arith) refl) in omega arith

pub visit_below-overflow_add-wider : goal.visit_below-overflow_add-wider
visit_below-overflow_add-wider t c = let g = (goes_on (c.loop.invariant c.requires.0) _ (omega arith) c.arity_of.ensures) in omega arith

pub visit_below-overflow_sub-wider : goal.visit_below-overflow_sub-wider
visit_below-overflow_sub-wider t c = let g = (goes_on (c.loop.invariant c.requires.0) _ (omega arith) c.arity_of.ensures) in omega arith

pub visit_below-overflow_add-below : goal.visit_below-overflow_add-below
visit_below-overflow_add-below t c = let g = (goes_on (c.loop.invariant c.requires.0) _ (omega arith) c.arity_of.ensures) in omega arith

pub visit_below-visit-here-requires : goal.visit_below-visit-here-requires
visit_below-visit-here-requires t c =
    let g = (goes_on (c.loop.invariant c.requires.0) _ (omega arith) c.arity_of.ensures) in
    let l = c.loop in
    (omega (arith, g), (g.below, omega (arith, (l.invariant c.requires.0).low c.requires.2)))

pub visit_below-loop-preserved : goal.visit_below-loop-preserved
visit_below-loop-preserved t c =
    λ w.
    let l = c.loop in
    let g = goes_on (l.invariant w) c.arity_of.result (omega arith) c.arity_of.ensures in
    g.beside (omega arith) (c.visit-here.ensures g.below)

pub visit_below-shape_of-program : goal.visit_below-shape_of-program
visit_below-shape_of-program t c = put-length (c.loop.invariant c.requires.0).puts

pub visit_below-returns : goal.visit_below-returns
visit_below-returns t c = λ w. below-done w (c.loop.invariant w) (omega arith)

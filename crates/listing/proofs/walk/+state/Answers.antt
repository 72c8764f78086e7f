use mathlib.Core.Path.{refl, ◌∙◌, ap}
use mathlib.Core.Bool.{cond}
use Prim.Native.Nat.{ℕ, ◌+◌, ◌-◌}
use native.Mathlib.Omega.{arith}
use lib.Dec.{eqb}
use lib.ListN.{get_or}
use Rattle.plan.specs.Notes.{row_noted}
use Rattle.octets.proofs.PutLaws.{put-length}
use Rattle.listing.proofs.WalkLaws.{leaf-inside, leaf_walked, enters-inside, enters, none_left, numbered, goes}
use Rattle.listing.proofs.walk.+state.Goals as goal

pub overflow_add-result : goal.overflow_add-result
overflow_add-result t c =
    let h = leaf-inside c.requires (omega arith) in
    omega arith

pub returns-then-places-eq0 : goal.returns-then-places-eq0
returns-then-places-eq0 t c = λ w. leaf_walked w (omega arith)

pub offset_bounds-plan-at : goal.offset_bounds-plan-at
offset_bounds-plan-at t c = let w = c.requires in let h = enters-inside w (omega arith) in omega arith

pub bounds-plan-at : goal.bounds-plan-at
bounds-plan-at t c = let w = c.requires in let h = enters-inside w (omega arith) in omega arith

pub overflow_add-branches : goal.overflow_add-branches
overflow_add-branches t c = let w = c.requires in let h = enters-inside w (omega arith) in omega arith

pub offset_bounds-plan-at-2 : goal.offset_bounds-plan-at-2
offset_bounds-plan-at-2 t c = let w = c.requires in let h = enters-inside w (omega arith) in omega arith

pub bounds-plan-at-2 : goal.bounds-plan-at-2
bounds-plan-at-2 t c = let w = c.requires in let h = enters-inside w (omega arith) in omega arith

pub overflow_add-here : goal.overflow_add-here
overflow_add-here t c = let w = c.requires in let h = enters-inside w (omega arith) in omega arith

pub loop-passed-init : goal.loop-passed-init
loop-passed-init t c = λ w. enters w (omega arith) (omega arith)

pub offset_bounds-plan-p : goal.offset_bounds-plan-p
offset_bounds-plan-p t c = let g = (goes (c.loop-passed.invariant c.requires) _ _ _ (omega arith) refl refl refl) in omega arith

pub bounds-plan-p : goal.bounds-plan-p
bounds-plan-p t c = let g = (goes (c.loop-passed.invariant c.requires) _ _ _ (omega arith) refl refl refl) in omega arith

pub offset_bounds-noted-n : goal.offset_bounds-noted-n
offset_bounds-noted-n t c = omega (arith, ((numbered (c.loop-passed.invariant c.requires) (omega arith))).0)

pub bounds-noted-n : goal.bounds-noted-n
bounds-noted-n t c = omega (arith, ((numbered (c.loop-passed.invariant c.requires) (omega arith))).0)

pub overflow_add-n : goal.overflow_add-n
overflow_add-n t c = omega (arith, ((numbered (c.loop-passed.invariant c.requires) (omega arith))).0)

pub overflow_add-n-in-loop-passed : goal.overflow_add-n-in-loop-passed
overflow_add-n-in-loop-passed t c = omega (arith, ((numbered (c.loop-passed.invariant c.requires) (omega arith))).0, c.skip_of.ensures)

pub row_after-after-requires : goal.row_after-after-requires
row_after-after-requires t c = λ n. rw c.skip_of.ensures (((numbered (c.loop-passed.invariant c.requires) (omega arith))).1 n)

pub overflow_sub-branch : goal.overflow_sub-branch
overflow_sub-branch t c = omega (
  arith,
  ((goes (c.loop-passed.invariant c.requires) _ _ _ (omega arith) refl refl refl)).some,
  (c.row_after-after.ensures ∙ ap (λ (s : ℕ). cond (eqb (get_or c.args.plan.now (c.args.from.at + 1) 0 - c.loop-passed.passed) 1) c.args.stop
      (row_noted (get_or (c.args.noted.now) (c.loop-passed.here.number + 1 + s) 0)))
      c.skip_of.ensures),
)

pub overflow_add-wider : goal.overflow_add-wider
overflow_add-wider t c = let g = (goes (c.loop-passed.invariant c.requires) _ _ _ (omega arith) refl refl refl) in omega (arith, c.arity_of.ensures)

pub overflow_sub-wider : goal.overflow_sub-wider
overflow_sub-wider t c = let g = (goes (c.loop-passed.invariant c.requires) _ _ _ (omega arith) refl refl refl) in omega arith

pub overflow_add-below : goal.overflow_add-below
overflow_add-below t c = let g = (goes (c.loop-passed.invariant c.requires) _ _ _ (omega arith) refl refl refl) in omega arith

pub overflow_add-below-in-loop-passed : goal.overflow_add-below-in-loop-passed
overflow_add-below-in-loop-passed t c = omega (arith, ((numbered (c.loop-passed.invariant c.requires) (omega arith))).0)

pub overflow_add-depth : goal.overflow_add-depth
overflow_add-depth t c = let g = (goes (c.loop-passed.invariant c.requires) _ _ _ (omega arith) refl refl refl) in omega arith

pub state-here-requires : goal.state-here-requires
state-here-requires t c =
    let g = (goes (c.loop-passed.invariant c.requires) _ _ _ (omega arith) ((c.wide.ensures ∙ c.row_of.ensures)) ((c.row_after-after.ensures ∙ ap (λ (s : ℕ). cond (eqb (get_or c.args.plan.now (c.args.from.at + 1) 0 - c.loop-passed.passed) 1) c.args.stop
    (row_noted (get_or ((c.args.noted.now)) ((c.loop-passed.here.number) + 1 + s) 0)))
    c.skip_of.ensures)) c.arity_of.ensures) in
    (omega (arith, g), g.below c.put_line-on.result)

pub loop-passed-preserved : goal.loop-passed-preserved
loop-passed-preserved t c =
    λ w.
    let g = goes (c.loop-passed.invariant w) _ _ _ (omega arith) ((c.wide.ensures ∙ c.row_of.ensures)) ((c.row_after-after.ensures ∙ ap (λ (s : ℕ). cond (eqb (get_or c.args.plan.now (c.args.from.at + 1) 0 - c.loop-passed.passed) 1) c.args.stop
    (row_noted (get_or (c.args.noted.now) (c.loop-passed.here.number + 1 + s) 0)))
    c.skip_of.ensures)) c.arity_of.ensures in
    g.beside (omega arith) c.put_line-on.ensures (c.state-here.ensures (g.below _))

pub shape_of-out : goal.shape_of-out
shape_of-out t c = put-length (c.loop-passed.invariant c.requires).puts

pub returns : goal.returns
returns t c = λ w. none_left w (c.loop-passed.invariant w) (omega arith)

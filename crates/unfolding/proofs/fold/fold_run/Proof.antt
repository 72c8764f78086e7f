use Prim.Native.Nat.{◌-◌}
use mathlib.Core.Path.{◌≡◌, sym, ◌∙◌}
use native.Mathlib.Omega.{arith}
use lib.ListN.{length}
use borrow.Author.Rules.{rules}
use Rattle.heads.proofs.HeadLaws.{decided-in}
use Rattle.unfolding.specs.code.Folds.{Folds}
use Rattle.unfolding.proofs.RunLaws.{On, on-begins, on-ends, turn}
use Rattle.unfolding.proofs.fold.fold_run.Statement.{statement}
use Rattle.unfolding.proofs.fold.fold_run.Tie as tie

abbrev invariant-loop : tie.invariant-loop-at
invariant-loop plan head₀ here₀ head here = (w : Folds plan head₀ here₀) → On w head here

abbrev decreases-loop : tie.decreases-loop-at
decreases-loop plan head₀ here₀ head here = length plan - here.at

-- src/fold.rt:31:5
loop-holds : tie.Need-loop-at-init invariant-loop decreases-loop
loop-holds c = λ w. on-begins w

-- src/fold.rt:31:11
straight-requires : tie.Need-straight-requires invariant-loop decreases-loop
straight-requires c κs = (c.loop-at.invariant c.requires).folds.stands

-- src/fold.rt:33:22
add-c : tie.Need-overflow_add-c invariant-loop decreases-loop
add-c c = let g = (let o = c.loop-at.invariant c.requires in
    turn o (sym c.loop-at-test.true ∙ c.straight.ensures o.folds.stands)) in omega (arith, g.inside, g.size)

-- src/fold.rt:33:17
mul-c : tie.Need-offset_bounds-plan-at invariant-loop decreases-loop
mul-c c = let g = (let o = c.loop-at.invariant c.requires in
    turn o (sym c.loop-at-test.true ∙ c.straight.ensures o.folds.stands)) in omega (arith, g.inside, g.size)

-- src/fold.rt:33:17
shared-slice-read-c : tie.Need-bounds-plan-at invariant-loop decreases-loop
shared-slice-read-c c = (let o = c.loop-at.invariant c.requires in
    turn o (sym c.loop-at-test.true ∙ c.straight.ensures o.folds.stands)).inside

-- src/fold.rt:34:45
mul-decide-in : tie.Need-offset_bounds-plan-at-in-loop-at invariant-loop decreases-loop
mul-decide-in c = let g = (let o = c.loop-at.invariant c.requires in
    turn o (sym c.loop-at-test.true ∙ c.straight.ensures o.folds.stands)) in omega (arith, g.inside, g.size)

-- src/fold.rt:34:45
shared-slice-read-decide-in : tie.Need-bounds-plan-at-in-loop-at invariant-loop decreases-loop
shared-slice-read-decide-in c = let g = (let o = c.loop-at.invariant c.requires in
    turn o (sym c.loop-at-test.true ∙ c.straight.ensures o.folds.stands)) in omega (arith, g.inside)

-- src/fold.rt:34:45
cast-decide-in : tie.Need-overflow_cast-plan invariant-loop decreases-loop
cast-decide-in c = let g = (let o = c.loop-at.invariant c.requires in
    turn o (sym c.loop-at-test.true ∙ c.straight.ensures o.folds.stands)) in record { fits = omega (arith, g.low, g.wide, g.inside, g.size) }

-- src/fold.rt:34:13
decide-in-requires : tie.Need-decide_in-n-requires invariant-loop decreases-loop
decide-in-requires c κs = search rules

-- src/fold.rt:36:17
add-t9 : tie.Need-overflow_add-here invariant-loop decreases-loop
add-t9 c = let g = (let o = c.loop-at.invariant c.requires in
    turn o (sym c.loop-at-test.true ∙ c.straight.ensures o.folds.stands)) in omega (arith, g.inside, g.size)

-- src/fold.rt:37:21
arity-of-requires : tie.Need-arity_of-requires invariant-loop decreases-loop
arity-of-requires c κs = search rules

-- src/fold.rt:37:21
add-t16 : tie.Need-overflow_add-here-in-loop-at invariant-loop decreases-loop
add-t16 c =
    let g = (let o = c.loop-at.invariant c.requires in
    turn o (sym c.loop-at-test.true ∙ c.straight.ensures o.folds.stands)) in
    omega (arith, c.arity_of.ensures, g.few, g.wide, g.inside, g.size)

-- src/fold.rt:37:21
sub-t17 : tie.Need-overflow_sub-here invariant-loop decreases-loop
sub-t17 c = let g = (let o = c.loop-at.invariant c.requires in
    turn o (sym c.loop-at-test.true ∙ c.straight.ensures o.folds.stands)) in omega (arith, g.inner)

-- src/fold.rt:31:5
loop-less : tie.Need-loop-at-smaller invariant-loop decreases-loop
loop-less c = let g = (let o = c.loop-at.invariant c.requires in
    turn o (sym c.loop-at-test.true ∙ c.straight.ensures o.folds.stands)) in omega (arith, g.inside)

-- src/fold.rt:31:5
loop-again : tie.Need-loop-at-preserved invariant-loop decreases-loop
loop-again c =
    λ w.
    let o = c.loop-at.invariant w in
    let g = turn o (sym c.loop-at-test.true ∙ c.straight.ensures o.folds.stands) in
    let k : length c.decide_in-n.new.head ≡ length c.loop-at.head = search rules in
    let p = decided-in g.can c.decide_in-n.ensures in
    g.after p.0 p.1 k c.arity_of.ensures

-- src/fold.rt:26:1
same_length : tie.Need-shape_of-head invariant-loop decreases-loop
same_length c = let s = c in (c.loop-at.invariant s.requires).folds.room ∙ sym s.requires.room

-- src/fold.rt:26:1
returns : tie.Need-returns invariant-loop decreases-loop
returns c =
    λ w.
    let o = c.loop-at.invariant w in
    on-ends o (sym c.loop-at-test.false ∙ c.straight.ensures o.folds.stands)

pub fold_run_spec : {M : Type 1} → statement M
fold_run_spec =
    tie.close
    (tie.spec
    invariant-loop
    decreases-loop
    loop-holds
    straight-requires
    add-c
    mul-c
    shared-slice-read-c
    mul-decide-in
    shared-slice-read-decide-in
    cast-decide-in
    decide-in-requires
    add-t9
    arity-of-requires
    add-t16
    sub-t17
    loop-less
    loop-again
    same_length
    returns)
